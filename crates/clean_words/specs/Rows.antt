-- Rows of gains: for each state what is gained from there on at most, or nothing.
use Rattle.std.specs.Prelude.{ℕ, List, Option, Some, None, ℤ, pos, neg_ℤ, ◌≤ℤ◌, slice_index_or}

abbrev pub Row : Type 0
Row = List (Option ℤ)

abbrev pub gain_at : Row → ℕ → Option ℤ
gain_at row k = slice_index_or row k None

-- at most n, above 0 or below
abbrev pub IsWithin : ℕ → Option ℤ → Type 0
IsWithin n None = Unit {0}
IsWithin n (Some w) = (neg_ℤ (pos n) ≤ℤ w) × (w ≤ℤ pos n)

abbrev pub AreWithin : ℕ → Row → Type 0
AreWithin n row = (k : ℕ) → IsWithin n (gain_at row k)
