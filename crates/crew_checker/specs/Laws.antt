-- A law of verdicts on staff texts.
use Rattle.std.specs.Prelude.{ℕ, List, Result}
use Rattle.rwsp_terms.specs.Instance.{Instance}
use Rattle.rwsp_model.specs.Validity.{KeepsLimits}
use Rattle.crew_size.specs.Verdict.{IsStaffVerdict}
use Rattle.crew_size.specs.declared.verdict.Staffed.{Staffed}
use Rattle.crew_size.specs.declared.verdict.StaffRefusal.{StaffRefusal}

-- no text is without a verdict: it decides sizes, or is refused for its first failure
abbrev pub StaffTextsHaveAVerdict : Type 0
StaffTextsHaveAVerdict =
    (P : Instance) (text : List ℕ) → KeepsLimits P
    → ((verdict : Result Staffed StaffRefusal) → IsStaffVerdict P text verdict → ⊥) → ⊥
