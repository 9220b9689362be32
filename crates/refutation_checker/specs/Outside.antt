-- Numbers that are asked for and that a list doesn't hold, and rules that are cited and not named.
use Rattle.std.specs.Prelude.{ℕ, List, Contains, Option, Some, None, min}
use Rattle.rwsp_terms.specs.declared.data.Rule.{Rule}
use Rattle.rwsp_terms.specs.Instance.{Instance}
use Rattle.rwsp_terms.specs.Rules.{Names}
use Rattle.refutation_terms.specs.Verdict.{IsLeast, IsUnnamed}

-- the number is asked for, and the list doesn't hold it
abbrev pub IsOutside : (ℕ → Type 0) → List ℕ → ℕ → Type 0
IsOutside IsAsked list k = IsAsked k × (Contains list k → ⊥)

-- the list holds each number that is asked for
abbrev pub HoldsAll : (ℕ → Type 0) → List ℕ → Type 0
HoldsAll IsAsked list = (k : ℕ) → IsAsked k → Contains list k

-- the least number that is asked for and that the list doesn't hold; None where it holds them all
abbrev pub IsLeastOutside : (ℕ → Type 0) → List ℕ → Option ℕ → Type 0
IsLeastOutside IsAsked list None = HoldsAll IsAsked list
IsLeastOutside IsAsked list (Some k) = IsLeast (IsOutside IsAsked list) k

-- the lesser of the numbers that are there
abbrev pub lesser : Option ℕ → Option ℕ → Option ℕ
lesser None b = b
lesser (Some a) None = Some a
lesser (Some a) (Some b) = Some (min a b)

-- the least number of a rule that is cited and isn't named; None where all are named
abbrev pub IsLeastUnnamed : Instance → List ℕ → (Rule → Type 0) → Option ℕ → Type 0
IsLeastUnnamed P named Cited None = (r : Rule) → Cited r → Names P named r
IsLeastUnnamed P named Cited (Some k) = IsLeast (IsUnnamed P named Cited) k
