-- The ranges of what lines of a log hold: lengths, lists of rules, and weights.
use Rattle.std.specs.Prelude.{◌≢◌, ℕ, ◌<◌, ◌≤◌, List, length, All, pos}
use Rattle.std.specs.List.Sorted.{IsStrictlyIncreasing}
use Rattle.rwsp_terms.specs.declared.limits.TheConstants.{LONGEST_WORD}
use Rattle.rwsp_terms.specs.declared.data.Weight.{Weight}
use Rattle.rwsp_terms.specs.Instance.{Instance, IsSymbol, IsDay}
use Rattle.rwsp_terms.specs.Rules.{rules}
use Rattle.rwsp_terms.specs.Weights.{weight_at, AreWeights}

-- the lengths of words that a leaf may speak of
abbrev pub IsLength : ℕ → Type 0
IsLength len = (0 < len) × (len ≤ LONGEST_WORD)

-- ascending numbers of rules of the problem
abbrev pub AreRules : Instance → List ℕ → Type 0
AreRules P R = IsStrictlyIncreasing R × All (λ k. (0 < k) × (k ≤ length (rules P))) R

-- each weight is that of a symbol of the problem on one of its days
abbrev pub WeightsFit : Instance → List Weight → Type 0
WeightsFit P y = All (λ e. IsDay P e.day × IsSymbol P e.symbol) y

-- weights in order, on days and symbols of the problem
abbrev pub AreWeightsOf : Instance → List Weight → Type 0
AreWeightsOf P y = AreWeights y × WeightsFit P y

-- some symbol has a weight on the day
abbrev pub HasWeight : List Weight → ℕ → Type 0
HasWeight y j = (x : ℕ) × (weight_at y j x ≢ pos 0)
