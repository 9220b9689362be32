-- The place of a number or an entry in a list that ascends, or the place where it would be put.
use Rattle.std.specs.Prelude.{◌≡◌, ◌⊎◌, ℕ, ◌<◌, ◌≤◌, ℤ, List, length, slice_index, slice_index_or, Bool, ◌&&◌, ◌==◌}
use Rattle.rwsp_terms.specs.Weights.{AreWeights, weight_at}
use Rattle.rwsp_terms.specs.declared.data.Weight.{Weight}

-- the number is at place i
abbrev pub NumberStands : List ℕ → ℕ → ℕ → Type 0
NumberStands xs i x = (i < length xs) × (slice_index xs i ≡ x)

-- lower numbers are before place i, and greater ones from it on
abbrev pub NumberBelongs : List ℕ → ℕ → ℕ → Type 0
NumberBelongs xs i x =
    (i ≤ length xs)
    × ((k : ℕ) → k < i → slice_index xs k < x)
    × ((k : ℕ) → i ≤ k → k < length xs → x < slice_index xs k)

-- the entry is that of symbol x on day j
abbrev pub is_at : Weight → ℕ → ℕ → Bool
is_at e j x = (e.day == j) && (e.symbol.number == x)

-- the entry comes before that of symbol x on day j
abbrev pub Precedes : Weight → ℕ → ℕ → Type 0
Precedes e j x = (e.day < j) ⊎ ((e.day ≡ j) × (e.symbol.number < x))

-- the entry comes after it
abbrev pub Follows : Weight → ℕ → ℕ → Type 0
Follows e j x = (j < e.day) ⊎ ((e.day ≡ j) × (x < e.symbol.number))

-- the entry of symbol x on day j is at place i
pub record EntryStands (y : List Weight) (j x i : ℕ) : Type 0 where
  pub within : i < length y
  pub before : (k : ℕ) (d : Weight) → k < i → Precedes (slice_index_or y k d) j x
  pub here : (d : Weight) → ((slice_index_or y i d).day ≡ j) × ((slice_index_or y i d).symbol.number ≡ x)
  pub after : (k : ℕ) (d : Weight) → i < k → k < length y → Follows (slice_index_or y k d) j x

-- there is no entry of symbol x on day j, and it belongs at place i
pub record EntryBelongs (y : List Weight) (j x i : ℕ) : Type 0 where
  pub within : i ≤ length y
  pub before : (k : ℕ) (d : Weight) → k < i → Precedes (slice_index_or y k d) j x
  pub after : (k : ℕ) (d : Weight) → i ≤ k → k < length y → Follows (slice_index_or y k d) j x

-- the new weights are the value for symbol x on day j, and the old ones elsewhere
pub record SetsWeight (old new : List Weight) (j x : ℕ) (value : ℤ) : Type 0 where
  pub weights : AreWeights new
  pub here : weight_at new j x ≡ value
  pub elsewhere : (k y : ℕ) → ((k ≡ j) × (y ≡ x) → ⊥) → weight_at new k y ≡ weight_at old k y
