-- Steps between the nodes of a layer.
use Rattle.std.specs.Prelude.{◌≡◌, ℕ, ◌<◌, Option, Some}
use Rattle.roster_finder.specs.declared.step.Step.{Step}

-- the step leads from node to node by a symbol, of so many nodes and symbols
abbrev pub IsStepWithin : ℕ → ℕ → Step → Type 0
IsStepWithin nodes symbols s = (s.from < nodes) × (s.to < nodes) × (s.symbol < symbols)

abbrev pub IsUnder : ℕ → ℕ → Type 0
IsUnder bound n = n < bound

-- the number, where there is one, is below this
abbrev pub IsBelow : ℕ → Option ℕ → Type 0
IsBelow bound number = (n : ℕ) → number ≡ Some n → n < bound
