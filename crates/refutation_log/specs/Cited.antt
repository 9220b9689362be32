-- Which numbers of rules are added to a list.
use Rattle.std.specs.Prelude.{◌≡◌, ◌⊎◌, ◌↔◌, ℕ, ◌<◌, List, Some, Contains, length, slice_get}
use Rattle.rwsp_terms.specs.declared.data.Weight.{Weight}
use Rattle.rwsp_terms.specs.declared.data.Rule.{Rule}
use Rattle.rwsp_terms.specs.declared.data.Rule.TheVariants.{Day}
use Rattle.rwsp_terms.specs.Instance.{Instance, IsDay}
use Rattle.rwsp_terms.specs.Rules.{rule_of}
use Rattle.refutation_terms.specs.declared.lines.WordClaim.{WordClaim}
use Rattle.refutation_terms.specs.declared.lines.WordClaim.TheVariants.{Dead, Light}
use Rattle.refutation_terms.specs.Ranges.{AreRules, AreWeightsOf}

-- the new list holds what the old one holds, and the numbers that are new
abbrev pub Adds : List ℕ → List ℕ → (ℕ → Type 0) → Type 0
Adds old new IsNew = (k : ℕ) → Contains new k ↔ (Contains old k ⊎ IsNew k)

-- the same, but maybe not all of the numbers that are new
abbrev pub AddsSome : List ℕ → List ℕ → (ℕ → Type 0) → Type 0
AddsSome old new IsNew = (k : ℕ) → (Contains old k → Contains new k) × (Contains new k → Contains old k ⊎ IsNew k)

-- the number of a rule that is cited
abbrev pub IsCited : Instance → (Rule → Type 0) → ℕ → Type 0
IsCited P Cited k = (r : Rule) × (rule_of P k ≡ Some r) × Cited r

-- the number of the rule of the day
abbrev pub IsDayRule : Instance → ℕ → ℕ → Type 0
IsDayRule P j k = rule_of P k ≡ Some (Day j)

-- the rule of some day
abbrev pub IsSomeDay : Instance → Rule → Type 0
IsSomeDay P r = (j : ℕ) × IsDay P j × (r ≡ Day j)

-- the number of the rule of a day on which something is listed
abbrev pub IsWeighedDayRule : Instance → List Weight → ℕ → Type 0
IsWeighedDayRule P y k = (m : ℕ) × (e : Weight) × (m < length y) × (slice_get y m ≡ Some e) × IsDayRule P e.day k

-- the rules of a leaf of words are the problem's, and so are the weights of its claim
abbrev pub ListAndClaimFit : Instance → List ℕ → WordClaim → Type 0
ListAndClaimFit P R (Dead len) = AreRules P R
ListAndClaimFit P R (Light turns reward y) = AreRules P R × AreWeightsOf P y
