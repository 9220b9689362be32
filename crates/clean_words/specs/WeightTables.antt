-- Weights laid out by day and symbol.
use Rattle.std.specs.Prelude.{◌≡◌, ℕ, ◌+◌, ◌/◌, ◌%◌, ◌<◌, List, length, ℤ, pos, slice_index_or}
use Rattle.rwsp_terms.specs.declared.data.Weight.{Weight}
use Rattle.rwsp_terms.specs.declared.limits.TheConstants.{MOST_SYMBOLS}
use Rattle.rwsp_terms.specs.Weights.{weight_at}

-- the first `count` entries of the table: what each symbol weighs on day 1, then on day 2, and so on
abbrev pub HoldsWeights : List Weight → List ℤ → ℕ → Type 0
HoldsWeights y table count =
    (length table ≡ count)
    × ((k : ℕ) → k < count → slice_index_or table k (pos 0) ≡ weight_at y (k / MOST_SYMBOLS + 1) (k % MOST_SYMBOLS))
