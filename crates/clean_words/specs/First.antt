-- The first of some weights of which a fact holds.
use Rattle.std.specs.Prelude.{◌≡◌, ℕ, ◌+◌, ◌<◌, List, [], ◌∷◌, length, slice_index_or, Option, Some, None, Result, Ok, Err}
use Rattle.std.specs.declared.alloc.AllocError.{AllocError}
use Rattle.rwsp_terms.specs.declared.data.Weight.{Weight}

-- it holds at a place, and at none before. Places count from the start
pub record IsFirstAt (H : List Weight → Type 0) (start : ℕ) (bounds : List (List Weight)) (k : ℕ) : Type 0 where
  pub place : ℕ
  pub counted : k ≡ start + place
  pub within : place < length bounds
  pub holds : H (slice_index_or bounds place [])
  pub before : (i : ℕ) → i < place → H (slice_index_or bounds i []) → ⊥

-- the first place where it holds, or none where it holds nowhere
abbrev pub IsFirstHolding : (List Weight → Type 0) → ℕ → List (List Weight) → Option ℕ → Type 0
IsFirstHolding H start bounds None = (i : ℕ) → i < length bounds → H (slice_index_or bounds i []) → ⊥
IsFirstHolding H start bounds (Some k) = IsFirstAt H start bounds k

-- the first answer that isn't none
abbrev pub first_answer : List (Result (Option ℕ) AllocError) → Result (Option ℕ) AllocError
first_answer [] = Ok None
first_answer (Ok None ∷ answers) = first_answer answers
first_answer (Ok (Some k) ∷ answers) = Ok (Some k)
first_answer (Err e ∷ answers) = Err e
