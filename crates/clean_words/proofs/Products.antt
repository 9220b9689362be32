-- Weights, products and sums are small.
use Rattle.std.proofs.Common.{◌≡◌, ℕ, suc, ◌+◌, ◌*◌, ◌≤◌, List, [], ◌∷◌, Bool, true, false, ◌&&◌, ◌==◌, refl, ap, sym, ◌∙◌, subst, arith, pos, negsuc, neg_ℤ, ℤ, w32, w64, to_z, of_z, if◌then◌else◌}
use Rattle.std.specs.Prelude.{◌≤ℤ◌, ◌+ℤ◌, ◌*ℤ◌, All}
use Rattle.std.specs.List.{range_with_len}
use Rattle.std.proofs.lemmas.Int.{ints}
use Rattle.rwsp_terms.specs.declared.data.Weight.{Weight}
use Rattle.rwsp_terms.specs.Weights.{IsWeight, AreWeights, weight_at}
use Rattle.refutation_terms.specs.Word.{int_sum_by}
use Rattle.refutation_terms.proofs.Sums.{sum_range, times_pos_le, times_negsuc_le}

abbrev pub IsBetween : ℕ → ℤ → Type 0
IsBetween n z = (neg_ℤ (pos n) ≤ℤ z) × (z ≤ℤ pos n)

one_weight : (b : Bool) (v rest : ℤ) → IsBetween 1000 v → IsBetween 1000 rest → IsBetween 1000 (if b then v else rest)
one_weight true v rest h k = h
one_weight false v rest h k = k

small_by : (y : List Weight) → All IsWeight y → (j x : ℕ) → IsBetween 1000 (weight_at y j x)
small_by [] small j x = (omega (arith, ints), omega (arith, ints))
small_by (e ∷ y) small j x =
    let first : IsWeight e = small 0 e (omega arith) in
    one_weight ((e.day == j) && (e.symbol.number == x)) e.value (weight_at y j x) (omega (arith, ints, first.0), first.1) (small_by y (λ k d lt. small (suc k) d (omega (arith, lt))) j x)

pub weight_small : (y : List Weight) (j x : ℕ) → AreWeights y → IsBetween 1000 (weight_at y j x)
weight_small y j x h = small_by y h.small j x

-- a weight that is read into a wider type
pub read_wider : (a b v : ℤ) → b ≡ to_z w32 (of_z w32 a) → a ≡ v → IsBetween 1000 v → IsBetween 1000 (to_z w64 (of_z w64 b))
read_wider a b v e f h = (omega (arith, ints), omega (arith, ints))

-- a product of a weight and a number of weeks
product_by : (a b : ℤ) → IsBetween 1000 a → IsBetween 4800 b → IsBetween 4800000 (a *ℤ b)
product_by (pos n) b h k =
    let up : (pos n *ℤ b) ≤ℤ pos (n * 4800) = times_pos_le n b (pos 4800) k.1 in
    let down : (pos n *ℤ neg_ℤ (pos 4800)) ≤ℤ (pos n *ℤ b) = times_pos_le n (neg_ℤ (pos 4800)) b k.0 in
    (omega (arith, ints, down, h.1), omega (arith, ints, up, h.1))
product_by (negsuc n) b h k =
    let up : (negsuc n *ℤ b) ≤ℤ (negsuc n *ℤ neg_ℤ (pos 4800)) = times_negsuc_le n (neg_ℤ (pos 4800)) b k.0 in
    let down : (negsuc n *ℤ pos 4800) ≤ℤ (negsuc n *ℤ b) = times_negsuc_le n b (pos 4800) k.1 in
    (omega (arith, ints, down, h.0), omega (arith, ints, up, h.0))

pub sum_snoc : (f : ℕ → ℤ) (a n : ℕ) → int_sum_by f (range_with_len a (n + 1)) ≡ int_sum_by f (range_with_len a n) +ℤ f (a + n)
sum_snoc f a n =
    let one : int_sum_by f (range_with_len (a + n) 1) ≡ f (a + n) = omega (arith, ints) in
    sum_range f a n 1 ∙ ap (λ z. int_sum_by f (range_with_len a n) +ℤ z) one

pub product_small : (a b : ℤ) → negsuc 999 ≤ℤ a → a ≤ℤ pos 1000 → negsuc 4799 ≤ℤ b → b ≤ℤ pos 600 → IsBetween 4800000 (a *ℤ b)
product_small a b h i k l = product_by a b (omega (arith, ints, h), i) (omega (arith, ints, k), omega (arith, ints, l))

-- one number more
pub sum_step : (f : ℕ → ℤ) (a n k at : ℕ) (sum r new : ℤ) → sum ≡ int_sum_by f (range_with_len a n) → IsBetween (k * n) sum → r ≡ f at → at ≡ a + n → IsBetween k r → new ≡ sum +ℤ r → (new ≡ int_sum_by f (range_with_len a (n + 1))) × IsBetween (k * (n + 1)) new
sum_step f a n k at sum r new is small one here few more = (
  more ∙ ap (λ z. z +ℤ r) is ∙ ap (λ z. int_sum_by f (range_with_len a n) +ℤ z) (one ∙ ap f here) ∙ sym (sum_snoc f a n),
  (omega (arith, ints, small.0, few.0, more), omega (arith, ints, small.1, few.1, more)),
)

pub value_small : (y : List Weight) (j x : ℕ) (v : ℤ) → AreWeights y → v ≡ weight_at y j x → IsBetween 1000 v
value_small y j x v h is = let P : ℤ → Type 0 = IsBetween 1000 in subst P (sym is) (weight_small y j x h)

-- a product of a number of turns and a total
pub turns_small : (n : ℕ) (b : ℤ) → n ≤ 100000 → IsBetween 4000000000 b → IsBetween 400000000000000 (pos n *ℤ b)
turns_small n b few h =
    let up : (pos n *ℤ b) ≤ℤ pos (n * 4000000000) = times_pos_le n b (pos 4000000000) h.1 in
    let down : (pos n *ℤ neg_ℤ (pos 4000000000)) ≤ℤ (pos n *ℤ b) = times_pos_le n (neg_ℤ (pos 4000000000)) b h.0 in
    (omega (arith, ints, down, few), omega (arith, ints, up, few))

-- a product of a reward and a goal
pub reward_small : (n m : ℕ) → n ≤ 1000 → m ≤ 601 → n * m ≤ 601000
reward_small n m few less =
    let up : (pos n *ℤ pos m) ≤ℤ pos (n * 601) = times_pos_le n (pos m) (pos 601) (omega (arith, ints, less)) in
    let same : pos n *ℤ pos m ≡ pos (n * m) = refl in
    omega (arith, ints, up, same, few)
