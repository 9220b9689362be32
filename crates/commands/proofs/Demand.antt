-- What is demanded on a day, and on all days.
use Rattle.std.proofs.Common.{◌≡◌, ℕ, ◌+◌, ◌≤◌, [], ◌∷◌, refl, ap, sym, subst, ◌∙◌, pos, add-one, arith, ℤ, ◌≤ℤ◌, nat_abs, to_z, of_z, w32}
use Rattle.std.proofs.lemmas.Int.{ints, to_z-of_z}
use Rattle.std.specs.List.{range_with_len, sum_by}
use Rattle.std.proofs.lemmas.List.Sums.{sum_by-append}
use Rattle.rwsp_terms.specs.declared.limits.TheConstants.{MOST_WEEKS}
use Rattle.rwsp_terms.proofs.Counting.{range_more}
use Rattle.rwsp_terms.specs.Instance.{Instance, least, shift_demand}

-- the least demand of a shift by its place
pub least_of_shift : (P : Instance) (x j : ℕ) → least P (x + 1) j ≡ pos (shift_demand P (x + 1) j).least
least_of_shift P x j = subst (λ (n : ℕ). least P n j ≡ pos (shift_demand P n j).least) (sym (add-one x)) refl

-- a sum over one number more
pub sum_more : (f : ℕ → ℕ) (n total more : ℕ) → total ≡ sum_by f (range_with_len 1 n) → more ≡ f (n + 1) → total + more ≡ sum_by f (range_with_len 1 (n + 1))
sum_more f n total more e here =
    let same : n + 1 ≡ 1 + n = omega arith in
    let end : f (n + 1) ≡ f (1 + n) = ap f same in
    let parts = ap (sum_by f) (range_more 1 n) ∙ sum_by-append f (range_with_len 1 n) ((1 + n) ∷ []) in
    omega arith

-- a small number as a signed one and back
pub small_cast : (z : ℤ) (m : ℕ) → z ≡ pos m → z ≤ℤ pos MOST_WEEKS → (m ≤ MOST_WEEKS) × (nat_abs (to_z w32 (of_z w32 z)) ≡ m)
small_cast z m e below =
    let few : m ≤ MOST_WEEKS = omega (arith, ints) in
    (few, grind (arith, ints, to_z-of_z))
