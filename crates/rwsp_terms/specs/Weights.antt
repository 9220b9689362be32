-- Lists of what symbols weigh on days.
use Rattle.std.specs.Prelude.{◌≡◌, ◌≢◌, ◌⊎◌, ℕ, ◌<◌, ◌≤ℤ◌, ℤ, pos, neg_ℤ, List, AllPairs, All, ◌&&◌, ◌==◌, [], ◌∷◌, if◌then◌else◌}
use Rattle.rwsp_terms.specs.declared.data.Weight.{Weight}
use Rattle.rwsp_terms.specs.declared.limits.TheConstants.{GREATEST_WEIGHT}

-- an earlier day, or the same day and a lower symbol
abbrev pub ComesBefore : Weight → Weight → Type 0
ComesBefore a b = (a.day < b.day) ⊎ ((a.day ≡ b.day) × (a.symbol.number < b.symbol.number))

-- a value that isn't 0, from the least weight to the greatest
abbrev pub IsWeight : Weight → Type 0
IsWeight a = (neg_ℤ (pos GREATEST_WEIGHT) ≤ℤ a.value) × (a.value ≤ℤ pos GREATEST_WEIGHT) × (a.value ≢ pos 0)

-- ascending by day and then by symbol, without repeats
pub record AreWeights (y : List Weight) : Type 0 where
  pub ascends : AllPairs ComesBefore y
  pub small : All IsWeight y

-- what a symbol weighs on a day
abbrev pub weight_at : List Weight → ℕ → ℕ → ℤ
weight_at [] j x = pos 0
weight_at (e ∷ y) j x = if (e.day == j) && (e.symbol.number == x) then e.value else weight_at y j x
