-- The causes of a line, by its kind and by its text.
use Rattle.std.proofs.Common.{◌≡◌, ℕ, ◌+◌, ◌<◌, List, [], ◌∷◌, ◌++◌, length, refl, sym, ◌∙◌, subst, arith, Option, inr, Bool, true, false}
use Rattle.rwsp_terms.specs.Instance.{Instance, cells}
use Rattle.refutation_terms.specs.declared.lines.Line.{Line}
use Rattle.refutation_terms.specs.declared.lines.Line.TheVariants.{Split}
use Rattle.refutation_terms.specs.declared.lines.Opening.{Opening}
use Rattle.refutation_terms.specs.declared.lines.Opening.TheVariants.{Full}
use Rattle.refutation_terms.specs.declared.lines.LogRefusal.{LogRefusal}
use Rattle.refutation_terms.specs.declared.lines.LogRefusal.TheVariants as Refusals
use Rattle.refutation_terms.specs.Word.{Domains, AreSame}
use Rattle.refutation_terms.specs.Tree.{IsTree, domains_at}
use Rattle.refutation_terms.specs.Log.{Holds, LineFits, GoalFits}
use Rattle.refutation_terms.specs.Verdict.{Spells, TreeCause, SplitsIdly, CauseBehind, header_lines}
use Rattle.refutation_terms.proofs.Causes.{long_not_short, escaped_not_holding}
use Rattle.refutation_terms.proofs.Spent.{open_holds_not}
use Rattle.refutation_terms.proofs.SameDomains.{turned_round, same_idle, same_holds, same_escapes}
use Rattle.refutation_terms.proofs.LineTables.{spelled_lines_fit}
use Rattle.domain_store.specs.Store.{Store, BelongsTo, has_domain, IsStore, HasDomains}
use Rattle.domain_store.specs.States.{State, IsStateOf}
use Rattle.domain_store.proofs.Idle.{idle_in_store}
use Rattle.refutation_checker.specs.LineVerdicts.{IsIdleSplit, PlainCause, IsSoundLine, LineCause}
use Rattle.refutation_checker.specs.LineTexts.{Judging, log_of, IsSoundUnder, HasCause, IsLineRead, MayStep}

pub plain_is_cause : (P : Instance) (goal : Option ℕ) (named : List ℕ) (D : Domains) (n : ℕ) (line : Line) (why : LogRefusal) → PlainCause P goal named D n line why → LineCause P goal named D n line why
plain_is_cause P goal named D n line (Refusals.Escape i w) h = absurd h
plain_is_cause P goal named D n line why h = h

-- a line that has a cause isn't sound

idle_not_sound : (P : Instance) (goal : Option ℕ) (D : Domains) (line : Line) → IsIdleSplit P D line → Holds P goal D line → ⊥
idle_not_sound P goal D (Split p x) idle holds = let clash : true ≡ false = sym idle ∙ holds in cc
idle_not_sound P goal D leaf idle holds = absurd idle

pub cause_not_sound : (P : Instance) (goal : Option ℕ) (named : List ℕ) (D : Domains) (n : ℕ) (line : Line) (why : LogRefusal) → LineCause P goal named D n line why → IsSoundLine P goal named D line → ⊥
cause_not_sound P goal named D n line (Refusals.Unnamed i k) h s = h.1.0.3 (s.named_all h.1.0.0 h.1.0.2)
cause_not_sound P goal named D n line (Refusals.Idle i) h s = idle_not_sound P goal D line h.1 s.holds
cause_not_sound P goal named D n line (Refusals.Long i k) h s = long_not_short P line k s.short h.2.0
cause_not_sound P goal named D n line (Refusals.Fails i) h s = h.3 s.holds
cause_not_sound P goal named D n line (Refusals.Escape i w) h s = escaped_not_holding P goal D line w h.3 s.holds
cause_not_sound P goal named D n line (Refusals.Unfinished i) h s = open_holds_not P goal D (subst (Holds P goal D) h.1 s.holds)
cause_not_sound P goal named D n line why h s = absurd h

-- under the same domains

same_idle_split : (P : Instance) (goal : Option ℕ) (counts : Bool) (D E : Domains) (line : Line) → LineFits P goal counts line → AreSame P D E → IsIdleSplit P D line → IsIdleSplit P E line
same_idle_split P goal counts D E (Split p x) fits same h = sym (same_idle P D E p x.number fits.0 same) ∙ h
same_idle_split P goal counts D E leaf fits same h = absurd h

pub same_cause : (P : Instance) (goal : Option ℕ) (counts : Bool) (named : List ℕ) (D E : Domains) (n : ℕ) (line : Line) (why : LogRefusal) → 0 < cells P → GoalFits P Full goal → LineFits P goal counts line → AreSame P D E → LineCause P goal named D n line why → LineCause P goal named E n line why
same_cause P goal counts named D E n line (Refusals.Idle i) some weeks fits same h = (h.0, same_idle_split P goal counts D E line fits same h.1)
same_cause P goal counts named D E n line (Refusals.Fails i) some weeks fits same h =
    (h.0, h.1, h.2, λ holds. h.3 (same_holds P goal counts E D line some weeks fits (turned_round P D E same) holds))
same_cause P goal counts named D E n line (Refusals.Escape i w) some weeks fits same h = (h.0, h.1, h.2, same_escapes P goal D E line w some same h.3)
same_cause P goal counts named D E n line why some weeks fits same h = h

pub same_sound : (P : Instance) (goal : Option ℕ) (counts : Bool) (named : List ℕ) (D E : Domains) (line : Line) → 0 < cells P → GoalFits P Full goal → LineFits P goal counts line → AreSame P D E → IsSoundLine P goal named D line → IsSoundLine P goal named E line
same_sound P goal counts named D E line some weeks fits same h = record { named_all = h.named_all; short = h.short; holds = same_holds P goal counts D E line some weeks fits same h.holds }

-- a line that holds may be read
pub may_step : (P : Instance) (goal : Option ℕ) (counts : Bool) (S : Store) (line : Line) → IsStore S → HasDomains S → BelongsTo P S → length S.sets ≡ cells P → LineFits P goal counts line → Holds P goal (has_domain S) line → MayStep S line
may_step P goal counts S (Split p x) now tests belongs long fits h =
    let inside : p < length S.sets = omega (arith, long, fits.0) in
    (inside, idle_in_store P (has_domain S) S p x.number now tests belongs inside (λ z. refl) ∙ h)
may_step P goal counts S leaf now tests belongs long fits h = tt

-- by the text of the line

pub idle_text : (P : Instance) (goal : Option ℕ) (counts : Bool) (D : Domains) (bytes : List ℕ) (line : Line) → Spells P goal counts bytes line → IsIdleSplit P D line → SplitsIdly P goal counts D bytes
idle_text P goal counts D bytes (Split p x) spelled h = (p, x, spelled, h)
idle_text P goal counts D bytes leaf spelled h = absurd h

pub cause_of_text : (P : Instance) (goal : Option ℕ) (counts : Bool) (named : List ℕ) (D : Domains) (n : ℕ) (bytes : List ℕ) (line : Line) (why : LogRefusal) → Spells P goal counts bytes line → LineCause P goal named D n line why → TreeCause P goal counts named D n bytes why
cause_of_text P goal counts named D n bytes line (Refusals.Unnamed i k) spelled h = (h.0, (line, spelled, h.1))
cause_of_text P goal counts named D n bytes line (Refusals.Idle i) spelled h = (h.0, idle_text P goal counts D bytes line spelled h.1)
cause_of_text P goal counts named D n bytes line (Refusals.Long i k) spelled h = (h.0, (line, (spelled, h.1), h.2))
cause_of_text P goal counts named D n bytes line (Refusals.Fails i) spelled h = (h.0, (line, (spelled, h.1), h.2, h.3))
cause_of_text P goal counts named D n bytes line (Refusals.Escape i w) spelled h = (h.0, (line, (spelled, h.1), h.2, h.3))
cause_of_text P goal counts named D n bytes line (Refusals.Unfinished i) spelled h = (h.0, subst (Spells P goal counts bytes) h.1 spelled)
cause_of_text P goal counts named D n bytes line why spelled h = absurd h

-- a line that is spelled behind lines that aren't a whole tree, by what its judging found
pub read_next : (J : Judging) (o : Opening) (lines : List Line) (bytes : List ℕ) (line : Line) (w : State)
    → Spells J.problem J.goal J.counts bytes line → (IsTree lines → ⊥)
    → IsSoundUnder J (domains_at J.problem o lines (length lines)) line × IsStateOf J.problem o (lines ++ line ∷ []) w
    → IsLineRead J o lines bytes w line
read_next J o lines bytes line w spelled part h =
    let fit = spelled_lines_fit J.problem J.goal J.counts bytes line spelled in
    record { spelled = fit.1; sound = record { in_tree = part; fits = fit.0; sound = h.0 }; walked = h.1 }

pub refused_next : (J : Judging) (o : Opening) (lines : List Line) (bytes : List ℕ) (line : Line) (n : ℕ) (why : LogRefusal)
    → Spells J.problem J.goal J.counts bytes line → (IsTree lines → ⊥) → n ≡ header_lines o J.goal J.counts + length lines + 1
    → HasCause J (domains_at J.problem o lines (length lines)) n line why
    → CauseBehind J.problem (log_of J o lines) bytes why
refused_next J o lines bytes line n why spelled part is h =
    let P = J.problem in
    let D = domains_at P o lines (length lines) in
    inr (part, subst (λ k. TreeCause P J.goal J.counts J.named D k bytes why) is (cause_of_text P J.goal J.counts J.named D n bytes line why spelled h))
