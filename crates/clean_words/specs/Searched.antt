-- The search for weights whose bound holds, round after round.
use Rattle.std.specs.Prelude.{◌≡◌, ℕ, ◌<◌, ◌≤◌, List, Option, Some, None, neg_ℤ, pos, ◌≤ℤ◌}
use Rattle.rwsp_terms.specs.declared.data.Symbol.{Symbol}
use Rattle.rwsp_terms.specs.declared.data.Weight.{Weight}
use Rattle.rwsp_terms.specs.Instance.{Instance, cells, shift_count}
use Rattle.rwsp_terms.specs.Weights.{weight_at}
use Rattle.refutation_terms.specs.Word.{Domains}
use Rattle.refutation_terms.specs.Escape.{IsLeastHeaviest}
use Rattle.refutation_terms.specs.Sharp.{step, IsNext, IsSearched, HoldsAtTop}

-- none of the first `rounds` rounds has weights whose bound holds
abbrev pub NoneHolds : Instance → Domains → List ℕ → ℕ → Type 0
NoneHolds P D R rounds = (k : ℕ) (y : List Weight) → k < rounds → IsSearched P D R k y → HoldsAtTop P D R y → ⊥

-- the weights of the first of `rounds` rounds whose bound holds, or none where these rounds have no such weights
abbrev pub IsFirstSearched : Instance → Domains → List ℕ → ℕ → Option (List Weight) → Type 0
IsFirstSearched P D R rounds None = NoneHolds P D R rounds
IsFirstSearched P D R rounds (Some y) = (k : ℕ) × (k < rounds) × IsSearched P D R k y × HoldsAtTop P D R y
    × NoneHolds P D R k

-- the least of the heaviest words where the bound doesn't hold, or none where it holds
abbrev pub IsTopEscape : Instance → Domains → List ℕ → List Weight → Option (List Symbol) → Type 0
IsTopEscape P D R y None = HoldsAtTop P D R y
IsTopEscape P D R y (Some word) = (HoldsAtTop P D R y → ⊥) × IsLeastHeaviest P D 0 (cells P) R y word

-- the weights that follow where the bound doesn't hold, or none where it holds
abbrev pub IsFollowing : Instance → Domains → List ℕ → List Weight → Option (List Weight) → Type 0
IsFollowing P D R y None = HoldsAtTop P D R y
IsFollowing P D R y (Some next) = (HoldsAtTop P D R y → ⊥) × IsNext P D R y next

-- each value is one from -n to n
abbrev pub AreValuesWithin : ℕ → List Weight → Type 0
AreValuesWithin n y = (j x : ℕ) → (neg_ℤ (pos n) ≤ℤ weight_at y j x) × (weight_at y j x ≤ℤ pos n)

-- on one day each weight went by one step, and on other days nothing changed
pub record AreSteppedOn (P : Instance) (y : List Weight) (word : List Symbol) (day : ℕ)
    (old new : List Weight) : Type 0 where
  pub here : (x : ℕ) → x ≤ shift_count P → weight_at new day x ≡ step P y word day x
  pub above : (x : ℕ) → shift_count P < x → weight_at new day x ≡ weight_at old day x
  pub elsewhere : (j x : ℕ) → (j ≡ day → ⊥) → weight_at new j x ≡ weight_at old j x
