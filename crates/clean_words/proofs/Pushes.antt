-- Rows with one gain more.
use Rattle.std.proofs.Common.{◌≡◌, ◌⊎◌, ℕ, ◌+◌, ◌<◌, ◌≤◌, [], ◌∷◌, ◌++◌, length, sym, subst, arith, inl, inr, Option, None, ℤ, length-append}
use Rattle.std.proofs.lemmas.Bool.{cases_lt}
use Rattle.std.proofs.Math.Nat.{eq-or-lt_of_le}
use Rattle.std.proofs.lemmas.List.{get_or_push, get_or_append_left, get_or_past}
use Rattle.clean_words.specs.Rows.{Row, gain_at, IsWithin, AreWithin}

-- what holds of each gain, and of the next, holds of each
pub each_more : (P : ℕ → Option ℤ → Type 0) (row : Row) (v : Option ℤ) (count : ℕ) → length row ≡ count → ((k : ℕ) → k < count → P k (gain_at row k)) → P count v → (k : ℕ) → k < count + 1 → P k (gain_at (row ++ v ∷ []) k)
each_more P row v count long each last k lt = at (eq-or-lt_of_le {n = k} {m = count} (omega arith))
  where
    at : (k ≡ count) ⊎ (k < count) → P k (gain_at (row ++ v ∷ []) k)
    at (inl here) = subst (P k) (sym (get_or_push row v None k (omega (arith, long, here)))) (subst (λ (n : ℕ). P n v) (sym here) last)
    at (inr less) = subst (P k) (sym (get_or_append_left row (v ∷ []) None k (omega (arith, long, less)))) (each k less)

pub light_more : (n : ℕ) (row : Row) (v : Option ℤ) → AreWithin n row → IsWithin n v → AreWithin n (row ++ v ∷ [])
light_more n row v light last k = at (cases_lt k (length row + 1))
  where
    at : (k < length row + 1) ⊎ (length row + 1 ≤ k) → IsWithin n (gain_at (row ++ v ∷ []) k)
    at (inl lt) = each_more (λ i g. IsWithin n g) row v (length row) (omega arith) (λ i less. light i) last k lt
    at (inr le) = subst (IsWithin n) (sym (get_or_past (row ++ v ∷ []) k None (omega (arith, le, length-append row (v ∷ []))))) tt

pub long_more : (row : Row) (v : Option ℤ) (count : ℕ) → length row ≡ count → length (row ++ v ∷ []) ≡ count + 1
long_more row v count long = omega (arith, long, length-append row (v ∷ []))

pub light_none : (n : ℕ) → AreWithin n []
light_none n k = tt
