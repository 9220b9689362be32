-- The bytes of a roster have one answer.
use Rattle.std.proofs.Common.{◌≡◌, ℕ, List, Some, None, Option, ap, sym, ◌∙◌, refl, subst}
use Rattle.std.specs.Prelude.{MatchOption}
use Rattle.rwsp_terms.specs.Instance.{Instance}
use Rattle.rwsp_terms.specs.declared.data.Symbol.{Symbol}
use Rattle.rwsp_model.specs.declared.roster.Roster.{Roster}
use Rattle.roster_print.specs.RosterText.{SpellsRoster}
use Rattle.roster_print.specs.Refusal.{refusal_of_roster}
use Rattle.roster_print.specs.declared.refusal.RosterRefusal.{RosterRefusal}
use Rattle.roster_print.proofs.Spelling.{one_roster, refusals_decide}
use Rattle.roster_checker.specs.declared.broken.Broken.{Broken}
use Rattle.roster_checker.specs.FirstBroken.{IsFirstBroken}
use Rattle.roster_checker.proofs.FirstBroken.{first_broken-not_met, first_broken-same}
use Rattle.commands.specs.Verify.{SpellsRight, IsRosterFault, IsVerified}
use Rattle.commands.specs.declared.verify.BrokenRoster.{BrokenRoster}
use Rattle.commands.specs.declared.verify.RosterFault.{RosterFault}
use Rattle.commands.specs.declared.verify.RosterFault.TheVariants.{Refused, Breaks}
use Rattle.commands.specs.declared.verify.Answer.{Answer}
use Rattle.commands.specs.declared.verify.Answer.TheVariants.{Meets, Fails}

-- a refused roster isn't spelled
refused_by : (P : Instance) (bytes : List ℕ) (s : List Symbol) (why : RosterRefusal) (o : Option RosterRefusal) → o ≡ Some why → MatchOption o ((s : List Symbol) × SpellsRoster P bytes s) (λ why. (s : List Symbol) → SpellsRoster P bytes s → ⊥) → SpellsRoster P bytes s → ⊥
refused_by P bytes s why None e m spells = absurd (cc)
refused_by P bytes s why (Some other) e m spells = m s spells

refused_roster : (P : Instance) (bytes : List ℕ) (s : List Symbol) (why : RosterRefusal) → refusal_of_roster P bytes ≡ Some why → SpellsRoster P bytes s → ⊥
refused_roster P bytes s why e spells = refused_by P bytes s why (refusal_of_roster P bytes) e (refusals_decide P bytes) spells

-- rosters with the same days and cells are one

abbrev schedule : ℕ → List Symbol → Roster
schedule days cells = record { days = days; cells = cells }

pub same_schedule : (s t : Roster) → s.days ≡ t.days → s.cells ≡ t.cells → s ≡ t
same_schedule s t days cells = ap (λ d. schedule d s.cells) days ∙ ap (λ c. schedule t.days c) cells

abbrev breach : Broken → Roster → BrokenRoster
breach broken roster = record { broken = broken; roster = roster }

pub same_breach : (b c : BrokenRoster) → b.broken ≡ c.broken → b.roster ≡ c.roster → b ≡ c
same_breach b c broken roster = ap (λ x. breach x b.roster) broken ∙ ap (λ s. breach c.broken s) roster

pub one_fault : (P : Instance) (bytes : List ℕ) (a b : RosterFault) → IsRosterFault P bytes a → IsRosterFault P bytes b → a ≡ b
one_fault P bytes (Refused why) (Refused other) h k =
    let both : Some why ≡ Some other = sym h ∙ k in
    let same : why ≡ other = cc in
    ap Refused same
one_fault P bytes (Refused why) (Breaks c) h k = absurd (refused_roster P bytes c.roster.cells why h k.0)
one_fault P bytes (Breaks b) (Refused why) h k = absurd (refused_roster P bytes b.roster.cells why k h.0)
one_fault P bytes (Breaks b) (Breaks c) h k =
    let s = b.roster in
    let t = c.roster in
    let cells : s.cells ≡ t.cells = one_roster P bytes s.cells t.cells h.0 k.0 in
    let roster : s ≡ t = same_schedule s t (h.1.0 ∙ sym k.1.0) cells in
    ap Breaks (same_breach b c (first_broken-same P t.cells b.broken c.broken (subst (λ (v : List Symbol). IsFirstBroken P v b.broken) cells h.1.2) k.1.2) roster)

-- a roster that meets every rule has none
pub right_or_fault : (P : Instance) (bytes : List ℕ) (fault : RosterFault) → SpellsRight P bytes → IsRosterFault P bytes fault → ⊥
right_or_fault P bytes (Refused why) h k = refused_roster P bytes h.0 why k h.1
right_or_fault P bytes (Breaks b) h k =
    let same : b.roster.cells ≡ h.0 = one_roster P bytes b.roster.cells h.0 k.0 h.1 in
    first_broken-not_met P h.0 b.broken (subst (λ (u : List Symbol). IsFirstBroken P u b.broken) same k.1.2) h.2

pub one_verified : (P : Instance) (bytes : List ℕ) (a b : Answer) → IsVerified P bytes a → IsVerified P bytes b → a ≡ b
one_verified P bytes Meets Meets h k = refl
one_verified P bytes Meets (Fails fault) h k = absurd (right_or_fault P bytes fault h k)
one_verified P bytes (Fails fault) Meets h k = absurd (right_or_fault P bytes fault k h)
one_verified P bytes (Fails fault) (Fails other) h k = ap Fails (one_fault P bytes fault other h k)
