-- What is said of logs, and that the bytes of one have one answer.
use Rattle.std.proofs.Common.{◌≡◌, ℕ, List, subst, sym, ap, ◌∙◌, refl}
use Rattle.std.specs.Prelude.{Result, Ok, Err, Option, Some}
use Rattle.rwsp_terms.specs.declared.data.Symbol.{Symbol}
use Rattle.rwsp_terms.specs.Instance.{Instance}
use Rattle.rwsp_terms.specs.Roster.{MeetsAll}
use Rattle.rwsp_terms.specs.Rules.{Meets as MeetsRules}
use Rattle.rwsp_model.specs.Validity.{KeepsLimits}
use Rattle.refutation_terms.specs.declared.lines.LogKind.{LogKind}
use Rattle.refutation_terms.specs.declared.lines.LogKind.TheVariants.{WithoutGoal, WithGoal}
use Rattle.refutation_terms.specs.declared.lines.Opening.{Opening}
use Rattle.refutation_terms.specs.declared.lines.Opening.TheVariants.{Full}
use Rattle.refutation_terms.specs.declared.lines.LogRefusal.{LogRefusal}
use Rattle.refutation_terms.specs.Log.{Log, Fits, GoalFits, Passes}
use Rattle.refutation_terms.specs.LogText.{log_text}
use Rattle.refutation_terms.specs.Strip.{IsReduced}
use Rattle.refutation_terms.specs.Verdict.{kind_by, kind_of_log, IsVerdict}
use Rattle.refutation_terms.proofs.Sound.{passing_leaves_none}
use Rattle.refutation_terms.proofs.LogKinds.{plain_leaves_none}
use Rattle.refutation_terms.proofs.Named.{named-IsRule}
use Rattle.refutation_terms.proofs.Unique.{verdict_unique}
use Rattle.refutation_log.proofs.LineTexts.{is_writable}
use Rattle.refutation_log.proofs.OneText.{has_names}
use Rattle.refutation_log.specs.Planned.{IsPlanned}
use Rattle.refutation_checker.specs.Accepted.{shown_by, IsPassedText}
use Rattle.refutation_checker.specs.declared.verdict.PassedLog.{PassedLog}
use Rattle.refutation_log.specs.declared.found.Found.{Found}
use Rattle.refutation_log.specs.declared.found.Found.TheVariants as Founds
use Rattle.commands.specs.Plan.{PlansAgree}
use Rattle.commands.specs.Check.{IsChecked, LeavesNoRoster}
use Rattle.commands.specs.Reduce.{IsReduction}
use Rattle.commands.specs.declared.check.Answer.TheVariants as Checks
use Rattle.commands.specs.declared.check.Answer.{Answer as Checked}
use Rattle.commands.specs.declared.reduce.Answer.TheVariants as Reductions
use Rattle.commands.specs.declared.reduce.Answer.{Answer as Reduction}
use Rattle.commands.proofs.Reductions.{one_reduced}

-- a roster that meets every rule meets those of a list
pub meets_named : (P : Instance) (R : List ℕ) (s : List Symbol) → MeetsAll P s → MeetsRules P R s
meets_named P R s h = record { is_roster = h.is_roster; rules = λ r n. h.rules r (named-IsRule P R r n) }

-- a roster and a refutation exclude each other, where the log has no goal and gives no cells
pub exclusive : (P : Instance) (s : List Symbol) (g : Log) → MeetsAll P s → Passes P g → kind_of_log g ≡ WithoutGoal → ⊥
exclusive P s g h k plain = plain_leaves_none P g s k plain (meets_named P g.named s h)

-- a log with a goal is a free log
pub with_goal : (P : Instance) (g : Log) (goal : ℕ) → Fits P g → g.goal ≡ Some goal → kind_of_log g ≡ WithGoal
with_goal P g goal fits is =
    let full = subst (λ (o : Option ℕ). GoalFits P g.opening o) is fits.goal in
    ap (λ (o : Opening). kind_by o g.goal) full.0 ∙ ap (λ (o : Option ℕ). kind_by Full o) is

-- a log that passes is accepted, with its rules, its goal and its given cells
pub leaves_none : (P : Instance) (g : Log) (passed : PassedLog) → Passes P g → shown_by g ≡ passed → LeavesNoRoster P passed
leaves_none P g passed passes is =
    subst (λ (shown : PassedLog). LeavesNoRoster P shown) is (λ s met many holds. passing_leaves_none P g s passes met many holds)

pub accepted : (P : Instance) (kind : LogKind) (bytes : List ℕ) (passed : PassedLog) → IsPassedText P kind bytes passed → IsChecked P kind bytes (Checks.Accepted passed)
accepted P kind bytes passed h = (h, leaves_none P h.0 passed h.1.passes h.2)

pub text_accepted : (P : Instance) (kind : LogKind) (g : Log) → kind_of_log g ≡ kind → Passes P g → IsChecked P kind (log_text P g) (Checks.Accepted (shown_by g))
text_accepted P kind g is passes =
    accepted P kind (log_text P g) (shown_by g) (g, record { of_kind = is; is_text = refl; passes = passes }, refl)

-- bytes are judged in one way

one_verdict : (P : Instance) (kind : LogKind) (bytes : List ℕ) (v w : Result Log LogRefusal) → KeepsLimits P → IsVerdict P kind bytes v → IsVerdict P kind bytes w → v ≡ w
one_verdict P kind bytes v w limits h k = verdict_unique P kind bytes v w (is_writable P limits) (has_names P limits) h k

same_refusal : (P : Instance) (kind : LogKind) (bytes : List ℕ) (why other : LogRefusal) → KeepsLimits P → IsVerdict P kind bytes (Err why) → IsVerdict P kind bytes (Err other) → why ≡ other
same_refusal P kind bytes why other limits h k =
    let both : Err why ≡ Err other = one_verdict P kind bytes (Err why) (Err other) limits h k in
    cc

same_log : (P : Instance) (kind : LogKind) (bytes : List ℕ) (g h : Log) → KeepsLimits P → IsVerdict P kind bytes (Ok g) → IsVerdict P kind bytes (Ok h) → g ≡ h
same_log P kind bytes g h limits a b =
    let both : Ok g ≡ Ok h = one_verdict P kind bytes (Ok g) (Ok h) limits a b in
    cc

not_both_ways : (P : Instance) (kind : LogKind) (bytes : List ℕ) (g : Log) (why : LogRefusal) → KeepsLimits P → IsVerdict P kind bytes (Ok g) → IsVerdict P kind bytes (Err why) → ⊥
not_both_ways P kind bytes g why limits a r =
    let both : Ok g ≡ Err why = one_verdict P kind bytes (Ok g) (Err why) limits a r in
    absurd (cc)

pub one_checked : (P : Instance) (kind : LogKind) (bytes : List ℕ) (a b : Checked) → KeepsLimits P → IsChecked P kind bytes a → IsChecked P kind bytes b → a ≡ b
one_checked P kind bytes (Checks.Accepted p) (Checks.Accepted q) limits h k =
    let same : h.0.0 ≡ k.0.0 = same_log P kind bytes h.0.0 k.0.0 limits h.0.1 k.0.1 in
    ap Checks.Accepted (sym h.0.2 ∙ ap shown_by same ∙ k.0.2)
one_checked P kind bytes (Checks.Accepted p) (Checks.Refused why) limits h k = absurd (not_both_ways P kind bytes h.0.0 why limits h.0.1 k)
one_checked P kind bytes (Checks.Refused why) (Checks.Accepted q) limits h k = absurd (not_both_ways P kind bytes k.0.0 why limits k.0.1 h)
one_checked P kind bytes (Checks.Refused why) (Checks.Refused other) limits h k = ap Checks.Refused (same_refusal P kind bytes why other limits h k)

pub one_reduction : (P : Instance) (bytes : List ℕ) (a b : Reduction) → KeepsLimits P → IsReduction P bytes a → IsReduction P bytes b → a ≡ b
one_reduction P bytes (Reductions.Reduced g) (Reductions.Reduced h) limits a b =
    let same : b.0.0 ≡ a.0.0 = same_log P WithoutGoal bytes b.0.0 a.0.0 limits b.0.1 a.0.1 in
    ap Reductions.Reduced (one_reduced P a.0.0 g h a.0.2 (subst (λ (k : Log). IsReduced P k h) same b.0.2))
one_reduction P bytes (Reductions.Reduced g) (Reductions.Refused why) limits h k = absurd (not_both_ways P WithoutGoal bytes h.0.0 why limits h.0.1 k)
one_reduction P bytes (Reductions.Refused why) (Reductions.Reduced g) limits h k = absurd (not_both_ways P WithoutGoal bytes k.0.0 why limits k.0.1 h)
one_reduction P bytes (Reductions.Refused why) (Reductions.Refused other) limits h k = ap Reductions.Refused (same_refusal P WithoutGoal bytes why other limits h k)

-- two plans
pub plans_agree : (P : Instance) (budget : ℕ) (a b : Found) → IsPlanned P budget a → IsPlanned P budget b → PlansAgree a b
plans_agree P budget (Founds.Roster s) (Founds.NoRoster g) h k = exclusive P s.cells g h.1 k.0 k.2.of_kind
plans_agree P budget (Founds.NoRoster g) (Founds.Roster s) h k = exclusive P s.cells g k.1 h.0 h.2.of_kind
plans_agree P budget (Founds.Roster s) (Founds.Roster t) h k = tt
plans_agree P budget (Founds.Roster s) (Founds.Undecided g) h k = tt
plans_agree P budget (Founds.NoRoster g) (Founds.NoRoster e) h k = tt
plans_agree P budget (Founds.NoRoster g) (Founds.Undecided e) h k = tt
plans_agree P budget (Founds.Undecided g) b h k = tt
