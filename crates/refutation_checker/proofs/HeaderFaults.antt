-- Why a text is refused at its header.
use Rattle.std.proofs.Common.{◌≡◌, ℕ, List, refl, ap, ◌∙◌, subst, arith, Some, inl, inr}
use Rattle.std.specs.Prelude.{Contains}
use Rattle.rwsp_terms.specs.declared.data.Rule.{Rule}
use Rattle.rwsp_terms.specs.declared.data.Rule.TheVariants as TheRules
use Rattle.rwsp_terms.specs.Instance.{Instance}
use Rattle.rwsp_terms.specs.Rules.{rule_of}
use Rattle.rwsp_model.proofs.Numbering.{one_number}
use Rattle.refutation_terms.specs.declared.lines.LogKind.{LogKind}
use Rattle.refutation_terms.specs.declared.lines.LogRefusal.{LogRefusal}
use Rattle.refutation_terms.specs.declared.lines.LogRefusal.TheVariants as Refusals
use Rattle.refutation_terms.specs.Verdict.{Front, Start, Versioned, BeforeTurn, BeforeGoal, BeforeCells, Reading, HasNoCause, Cause, IsRefusedBehindFront, IsRefused, IsLeast, IsUnnamed}

-- no line is refused for that the text ends
never_ends : (P : Instance) (kind : LogKind) (front : Front) (line : List ℕ) → Cause P kind front line Refusals.Ends → ⊥
never_ends P kind Start line h = h
never_ends P kind (Versioned v) line h = h
never_ends P kind (BeforeTurn counts R) line h = h
never_ends P kind (BeforeGoal counts R) line h = h
never_ends P kind (BeforeCells R) line h = h
never_ends P kind (Reading g) line h = elim h [ inl extra ↦ extra.1 | inr other ↦ other.1 ]

pub refused_at_line : (P : Instance) (kind : LogKind) (text : List ℕ) (why : LogRefusal) → IsRefusedBehindFront P (HasNoCause P kind) (Cause P kind) text why → IsRefused P kind text why
refused_at_line P kind text Refusals.Ends h = absurd (never_ends P kind h.front h.line h.cause)
refused_at_line P kind text why h = h

-- the number of the day's rule, where the list doesn't hold it
pub day_unnamed : (P : Instance) (R : List ℕ) (j k : ℕ) → rule_of P k ≡ Some (TheRules.Day j) → (Contains R k → ⊥) → IsLeast (IsUnnamed P R (λ (r : Rule). r ≡ TheRules.Day j)) k
day_unnamed P R j k is none = (
  (TheRules.Day j, is, refl, λ names. none (subst (Contains R) (one_number P names.0 k (TheRules.Day j) names.2 is) names.1)),
  λ i h. (let same : i ≡ k = one_number P i k (TheRules.Day j) (h.1 ∙ ap Some h.2) is in omega (arith, same)),
)
