-- Sums of integers.
use Rattle.std.proofs.Common.{◌≡◌, ◌≢◌, ◌⊎◌, ℕ, zero, suc, ◌+◌, ◌*◌, ◌<◌, ◌≤◌, List, [], ◌∷◌, refl, ap, sym, ◌∙◌, arith, inl, inr, Bool, true, false, cond, ◌==◌, count_by, pos, negsuc, ℤ}
use Rattle.std.specs.Prelude.{◌≤ℤ◌, ◌+ℤ◌, ◌-ℤ◌, ◌*ℤ◌}
use Rattle.std.specs.List.{range_with_len}
use Rattle.std.specs.Int.{int_min}
use Rattle.std.proofs.lemmas.Int.{ints, clamps}
use Rattle.std.proofs.lemmas.Bool.{eq-eqb, ne_eqb}
use Rattle.std.proofs.Math.Nat.{eq-or-lt_of_le}
use Rattle.std.proofs.Math.IntN.{suc_ℤ-*ℤ, pred_ℤ-*ℤ, zero-*ℤ, *ℤ-zero, *ℤ_comm, +ℤ_idl, +ℤ_idr}
use Rattle.rwsp_terms.proofs.Counting.{count_next}
use Rattle.refutation_terms.specs.Word.{int_sum_by}

pub sum_add : (f g : ℕ → ℤ) (xs : List ℕ) → int_sum_by (λ x. f x +ℤ g x) xs ≡ int_sum_by f xs +ℤ int_sum_by g xs
sum_add f g [] = refl
sum_add f g (x ∷ xs) = let more : int_sum_by (λ x. f x +ℤ g x) xs ≡ int_sum_by f xs +ℤ int_sum_by g xs = sum_add f g xs in omega (arith, ints)

pub sum_zero : (f : ℕ → ℤ) (xs : List ℕ) → ((x : ℕ) → f x ≡ pos 0) → int_sum_by f xs ≡ pos 0
sum_zero f [] h = refl
sum_zero f (x ∷ xs) h = let here : f x ≡ pos 0 = h x in let more : int_sum_by f xs ≡ pos 0 = sum_zero f xs h in omega (arith, ints)

-- equal terms over a range give equal sums
pub sum_same : (f g : ℕ → ℤ) (a n : ℕ) → ((x : ℕ) → a ≤ x → x < a + n → f x ≡ g x) → int_sum_by f (range_with_len a n) ≡ int_sum_by g (range_with_len a n)
sum_same f g a zero h = refl
sum_same f g a (suc n) h =
    let here : f a ≡ g a = h a (omega arith) (omega arith) in
    let more : int_sum_by f (range_with_len (a + 1) n) ≡ int_sum_by g (range_with_len (a + 1) n) = sum_same f g (a + 1) n (λ x le lt. h x (omega (arith, le)) (omega (arith, lt))) in
    omega (arith, ints)

-- lesser terms give lesser sums
pub sum_le : (f g : ℕ → ℤ) (a n : ℕ) → ((x : ℕ) → a ≤ x → x < a + n → f x ≤ℤ g x) → int_sum_by f (range_with_len a n) ≤ℤ int_sum_by g (range_with_len a n)
sum_le f g a zero h = let z : pos 0 ≤ℤ pos 0 = omega (arith, ints) in z
sum_le f g a (suc n) h =
    let here : f a ≤ℤ g a = h a (omega arith) (omega arith) in
    let more : int_sum_by f (range_with_len (a + 1) n) ≤ℤ int_sum_by g (range_with_len (a + 1) n) = sum_le f g (a + 1) n (λ x le lt. h x (omega (arith, le)) (omega (arith, lt))) in
    omega (arith, ints)

-- a range is one range and then the next
pub sum_range : (g : ℕ → ℤ) (a m n : ℕ) → int_sum_by g (range_with_len a (m + n)) ≡ int_sum_by g (range_with_len a m) +ℤ int_sum_by g (range_with_len (a + m) n)
sum_range g a zero n =
    let e : zero + n ≡ n = omega arith in let d : a ≡ a + zero = omega arith in
    ap (λ k. int_sum_by g (range_with_len a k)) e ∙ ap (λ b. int_sum_by g (range_with_len b n)) d ∙ sym (+ℤ_idl (int_sum_by g (range_with_len (a + zero) n)))
sum_range g a (suc m) n =
    let e : suc m + n ≡ suc (m + n) = omega arith in
    let d : a + 1 + m ≡ a + suc m = omega arith in
    let more : int_sum_by g (range_with_len (a + 1) (m + n)) ≡ int_sum_by g (range_with_len (a + 1) m) +ℤ int_sum_by g (range_with_len (a + 1 + m) n) = sum_range g (a + 1) m n in
    let there : int_sum_by g (range_with_len (a + 1 + m) n) ≡ int_sum_by g (range_with_len (a + suc m) n) = ap (λ b. int_sum_by g (range_with_len b n)) d in
    let here : int_sum_by g (range_with_len a (suc m + n)) ≡ g a +ℤ int_sum_by g (range_with_len (a + 1) (m + n)) = ap (λ k. int_sum_by g (range_with_len a k)) e in
    let front : int_sum_by g (range_with_len a (suc m)) ≡ g a +ℤ int_sum_by g (range_with_len (a + 1) m) = refl in
    omega (arith, ints)

-- a range that begins later
pub sum_shift : (g : ℕ → ℤ) (b a n : ℕ) → int_sum_by g (range_with_len (b + a) n) ≡ int_sum_by (λ k. g (b + k)) (range_with_len a n)
sum_shift g b a zero = refl
sum_shift g b a (suc n) =
    let e : b + a + 1 ≡ b + (a + 1) = omega arith in
    ap (λ z. g (b + a) +ℤ z) (ap (λ c. int_sum_by g (range_with_len c n)) e ∙ sum_shift g b (a + 1) n)

-- one period of a periodic sum, from any place
pub sum_period : (g : ℕ → ℤ) (m : ℕ) → ((q : ℕ) → g (q + m) ≡ g q) → (a : ℕ) → int_sum_by g (range_with_len a m) ≡ int_sum_by g (range_with_len 0 m)
sum_period g m h zero = refl
sum_period g m h (suc a) =
    let e : suc a ≡ a + 1 = omega arith in
    let d : m + 1 ≡ suc m = omega arith in
    let both : int_sum_by g (range_with_len a (m + 1)) ≡ int_sum_by g (range_with_len a m) +ℤ (g (a + m) +ℤ pos 0) = sum_range g a m 1 in
    let front : int_sum_by g (range_with_len a (m + 1)) ≡ g a +ℤ int_sum_by g (range_with_len (a + 1) m) = ap (λ k. int_sum_by g (range_with_len a k)) d in
    let same : g (a + m) ≡ g a = h a in
    let before : int_sum_by g (range_with_len a m) ≡ int_sum_by g (range_with_len 0 m) = sum_period g m h a in
    let next : int_sum_by g (range_with_len (suc a) m) ≡ int_sum_by g (range_with_len (a + 1) m) = ap (λ b. int_sum_by g (range_with_len b m)) e in
    omega (arith, ints)

pub times_more : (c : ℕ) (z : ℤ) → pos (suc c) *ℤ z ≡ (pos c *ℤ z) +ℤ z
times_more c z = suc_ℤ-*ℤ (pos c) z

-- c periods of a periodic sum
pub sum_periods : (g : ℕ → ℤ) (m : ℕ) → ((q : ℕ) → g (q + m) ≡ g q) → (c a : ℕ) → int_sum_by g (range_with_len a (c * m)) ≡ pos c *ℤ int_sum_by g (range_with_len 0 m)
sum_periods g m h zero a =
    let e : zero * m ≡ 0 = omega arith in
    ap (λ k. int_sum_by g (range_with_len a k)) e ∙ sym (zero-*ℤ (int_sum_by g (range_with_len 0 m)))
sum_periods g m h (suc c) a =
    let e : suc c * m ≡ m + c * m = omega arith in
    let whole : int_sum_by g (range_with_len a (suc c * m)) ≡ int_sum_by g (range_with_len a m) +ℤ int_sum_by g (range_with_len (a + m) (c * m)) = ap (λ k. int_sum_by g (range_with_len a k)) e ∙ sum_range g a m (c * m) in
    let one : int_sum_by g (range_with_len a m) ≡ int_sum_by g (range_with_len 0 m) = sum_period g m h a in
    let more : int_sum_by g (range_with_len (a + m) (c * m)) ≡ pos c *ℤ int_sum_by g (range_with_len 0 m) = sum_periods g m h c (a + m) in
    let sum : pos (suc c) *ℤ int_sum_by g (range_with_len 0 m) ≡ (pos c *ℤ int_sum_by g (range_with_len 0 m)) +ℤ int_sum_by g (range_with_len 0 m) = times_more c (int_sum_by g (range_with_len 0 m)) in
    omega (arith, ints)

-- a table summed row by row: rows of w
pub sum_rows : (g : ℕ → ℤ) (w a n : ℕ) → int_sum_by g (range_with_len (a * w) (n * w)) ≡ int_sum_by (λ i. int_sum_by (λ k. g (i * w + k)) (range_with_len 0 w)) (range_with_len a n)
sum_rows g w a zero = let e : zero * w ≡ 0 = omega arith in ap (λ k. int_sum_by g (range_with_len (a * w) k)) e
sum_rows g w a (suc n) =
    let e : suc n * w ≡ w + n * w = omega arith in
    let d : a * w + w ≡ (a + 1) * w = omega arith in
    let f : a * w ≡ a * w + 0 = omega arith in
    let row : int_sum_by g (range_with_len (a * w) w) ≡ int_sum_by (λ k. g (a * w + k)) (range_with_len 0 w) = ap (λ b. int_sum_by g (range_with_len b w)) f ∙ sum_shift g (a * w) 0 w in
    let rest : int_sum_by g (range_with_len (a * w + w) (n * w)) ≡ int_sum_by (λ i. int_sum_by (λ k. g (i * w + k)) (range_with_len 0 w)) (range_with_len (a + 1) n) = ap (λ b. int_sum_by g (range_with_len b (n * w))) d ∙ sum_rows g w (a + 1) n in
    ap (λ k. int_sum_by g (range_with_len (a * w) k)) e ∙ sum_range g (a * w) w (n * w) ∙ ap (λ z. z +ℤ int_sum_by g (range_with_len (a * w + w) (n * w))) row ∙ ap (λ z. int_sum_by (λ k. g (a * w + k)) (range_with_len 0 w) +ℤ z) rest

-- the same column by column
pub sum_exchange : (h : ℕ → ℕ → ℤ) (xs ys : List ℕ) → int_sum_by (λ i. int_sum_by (λ k. h i k) ys) xs ≡ int_sum_by (λ k. int_sum_by (λ i. h i k) xs) ys
sum_exchange h [] ys = sym (sum_zero (λ k. pos 0) ys (λ x. refl))
sum_exchange h (x ∷ xs) ys =
    ap (λ z. int_sum_by (λ k. h x k) ys +ℤ z) (sum_exchange h xs ys) ∙ sym (sum_add (λ k. h x k) (λ k. int_sum_by (λ i. h i k) xs) ys)

times_one : (v : ℤ) → v *ℤ pos 1 ≡ v
times_one v = *ℤ_comm v (pos 1) ∙ times_more 0 v ∙ ap (λ z. z +ℤ v) (zero-*ℤ v) ∙ +ℤ_idl v

pub marked_here : (Y : ℕ → ℤ) (m : ℕ) → Y m *ℤ pos (cond (m == m) 1 0) ≡ Y m
marked_here Y m = ap (λ b. Y m *ℤ pos (cond b 1 0)) (eq-eqb m m refl) ∙ times_one (Y m)

pub marked_elsewhere : (Y : ℕ → ℤ) (m x : ℕ) → m ≢ x → Y x *ℤ pos (cond (m == x) 1 0) ≡ pos 0
marked_elsewhere Y m x ne = ap (λ b. Y x *ℤ pos (cond b 1 0)) (ne_eqb m x ne) ∙ *ℤ-zero (Y x)

-- summed over a range, only the marked number counts
pub sum_marked_past : (Y : ℕ → ℤ) (m a n : ℕ) → m < a → int_sum_by (λ x. Y x *ℤ pos (cond (m == x) 1 0)) (range_with_len a n) ≡ pos 0
sum_marked_past Y m a zero lt = refl
sum_marked_past Y m a (suc n) lt =
    let here : Y a *ℤ pos (cond (m == a) 1 0) ≡ pos 0 = marked_elsewhere Y m a (omega (arith, lt)) in
    let more : int_sum_by (λ x. Y x *ℤ pos (cond (m == x) 1 0)) (range_with_len (a + 1) n) ≡ pos 0 = sum_marked_past Y m (a + 1) n (omega (arith, lt)) in
    ap (λ z. z +ℤ int_sum_by (λ x. Y x *ℤ pos (cond (m == x) 1 0)) (range_with_len (a + 1) n)) here ∙ ap (λ z. pos 0 +ℤ z) more

sum_marked_by : (Y : ℕ → ℤ) (m a n : ℕ) → (m < a + 1 + n → a + 1 ≤ m → int_sum_by (λ x. Y x *ℤ pos (cond (m == x) 1 0)) (range_with_len (a + 1) n) ≡ Y m) → m < a + suc n → (a ≡ m) ⊎ (a < m) → int_sum_by (λ x. Y x *ℤ pos (cond (m == x) 1 0)) (range_with_len a (suc n)) ≡ Y m
sum_marked_by Y m a n more lt (inl e) =
    let less : m < a + 1 = omega (arith, e) in
    ap (λ z. z +ℤ int_sum_by (λ x. Y x *ℤ pos (cond (m == x) 1 0)) (range_with_len (a + 1) n)) (ap (λ b. Y b *ℤ pos (cond (m == b) 1 0)) e ∙ marked_here Y m) ∙ ap (λ z. Y m +ℤ z) (sum_marked_past Y m (a + 1) n less) ∙ +ℤ_idr (Y m)
sum_marked_by Y m a n more lt (inr less) =
    ap (λ z. z +ℤ int_sum_by (λ x. Y x *ℤ pos (cond (m == x) 1 0)) (range_with_len (a + 1) n)) (marked_elsewhere Y m a (omega (arith, less))) ∙ ap (λ z. pos 0 +ℤ z) (more (omega (arith, lt)) (omega (arith, less))) ∙ +ℤ_idl (Y m)

pub sum_marked : (Y : ℕ → ℤ) (m a n : ℕ) → a ≤ m → m < a + n → int_sum_by (λ x. Y x *ℤ pos (cond (m == x) 1 0)) (range_with_len a n) ≡ Y m
sum_marked Y m a zero le lt = absurd (omega (arith, le, lt))
sum_marked Y m a (suc n) le lt = sum_marked_by Y m a n (λ l g. sum_marked Y m (a + 1) n g l) lt (eq-or-lt_of_le le)

times_count : (v : ℤ) (b : Bool) (c : ℕ) → v *ℤ pos (cond b 1 0 + c) ≡ (v *ℤ pos (cond b 1 0)) +ℤ (v *ℤ pos c)
times_count v true c =
    let e : 1 + c ≡ suc c = omega arith in
    let more : v *ℤ pos (1 + c) ≡ (v *ℤ pos c) +ℤ v = ap (λ k. v *ℤ pos k) e ∙ *ℤ_comm v (pos (suc c)) ∙ times_more c v ∙ ap (λ z. z +ℤ v) (*ℤ_comm (pos c) v) in
    let one : v *ℤ pos 1 ≡ v = times_one v in
    omega (arith, ints)
times_count v false c =
    let e : 0 + c ≡ c = omega arith in
    let more : v *ℤ pos (0 + c) ≡ v *ℤ pos c = ap (λ k. v *ℤ pos k) e in
    let none : v *ℤ pos 0 ≡ pos 0 = *ℤ-zero v in
    omega (arith, ints)

-- the values of some numbers below K, summed one by one or number by number
pub sum_by_number : (Y : ℕ → ℤ) (f : ℕ → ℕ) (K a n : ℕ) → ((i : ℕ) → a ≤ i → i < a + n → f i < K) → int_sum_by (λ i. Y (f i)) (range_with_len a n) ≡ int_sum_by (λ x. Y x *ℤ pos (count_by (λ i. f i == x) (range_with_len a n))) (range_with_len 0 K)
sum_by_number Y f K a zero h = sym (sum_zero (λ x. Y x *ℤ pos (count_by (λ i. f i == x) [])) (range_with_len 0 K) (λ x. *ℤ-zero (Y x)))
sum_by_number Y f K a (suc n) h =
    let more : int_sum_by (λ i. Y (f i)) (range_with_len (a + 1) n) ≡ int_sum_by (λ x. Y x *ℤ pos (count_by (λ i. f i == x) (range_with_len (a + 1) n))) (range_with_len 0 K) = sum_by_number Y f K (a + 1) n (λ i le lt. h i (omega (arith, le)) (omega (arith, lt))) in
    let here : int_sum_by (λ x. Y x *ℤ pos (cond (f a == x) 1 0)) (range_with_len 0 K) ≡ Y (f a) = sum_marked Y (f a) 0 K (omega arith) (let lt : f a < K = h a (omega arith) (omega arith) in omega (arith, lt)) in
    let parts : int_sum_by (λ x. Y x *ℤ pos (count_by (λ i. f i == x) (range_with_len a (suc n)))) (range_with_len 0 K) ≡ int_sum_by (λ x. (Y x *ℤ pos (cond (f a == x) 1 0)) +ℤ (Y x *ℤ pos (count_by (λ i. f i == x) (range_with_len (a + 1) n)))) (range_with_len 0 K) =
    sum_same (λ x. Y x *ℤ pos (count_by (λ i. f i == x) (range_with_len a (suc n)))) (λ x. (Y x *ℤ pos (cond (f a == x) 1 0)) +ℤ (Y x *ℤ pos (count_by (λ i. f i == x) (range_with_len (a + 1) n)))) 0 K
    (λ x le lt. ap (λ c. Y x *ℤ pos c) (count_next (λ i. f i == x) a n) ∙ times_count (Y x) (f a == x) (count_by (λ i. f i == x) (range_with_len (a + 1) n))) in
    let split : int_sum_by (λ x. (Y x *ℤ pos (cond (f a == x) 1 0)) +ℤ (Y x *ℤ pos (count_by (λ i. f i == x) (range_with_len (a + 1) n)))) (range_with_len 0 K) ≡ int_sum_by (λ x. Y x *ℤ pos (cond (f a == x) 1 0)) (range_with_len 0 K) +ℤ int_sum_by (λ x. Y x *ℤ pos (count_by (λ i. f i == x) (range_with_len (a + 1) n))) (range_with_len 0 K) =
    sum_add (λ x. Y x *ℤ pos (cond (f a == x) 1 0)) (λ x. Y x *ℤ pos (count_by (λ i. f i == x) (range_with_len (a + 1) n))) (range_with_len 0 K) in
    ap (λ z. Y (f a) +ℤ z) more ∙ ap (λ z. z +ℤ int_sum_by (λ x. Y x *ℤ pos (count_by (λ i. f i == x) (range_with_len (a + 1) n))) (range_with_len 0 K)) (sym here) ∙ sym (parts ∙ split)

-- products in order
pub times_pos_le : (n : ℕ) (a b : ℤ) → a ≤ℤ b → (pos n *ℤ a) ≤ℤ (pos n *ℤ b)
times_pos_le zero a b h = let x : pos 0 *ℤ a ≡ pos 0 = zero-*ℤ a in let y : pos 0 *ℤ b ≡ pos 0 = zero-*ℤ b in omega (arith, ints)
times_pos_le (suc n) a b h =
    let more : (pos n *ℤ a) ≤ℤ (pos n *ℤ b) = times_pos_le n a b h in
    let x : pos (suc n) *ℤ a ≡ (pos n *ℤ a) +ℤ a = times_more n a in
    let y : pos (suc n) *ℤ b ≡ (pos n *ℤ b) +ℤ b = times_more n b in
    omega (arith, ints)

times_first_less : (z : ℤ) → negsuc 0 *ℤ z ≡ (pos 0 *ℤ z) -ℤ z
times_first_less z = pred_ℤ-*ℤ (pos 0) z

times_less : (n : ℕ) (z : ℤ) → negsuc (suc n) *ℤ z ≡ (negsuc n *ℤ z) -ℤ z
times_less n z = pred_ℤ-*ℤ (negsuc n) z

pub times_negsuc_le : (n : ℕ) (a b : ℤ) → a ≤ℤ b → (negsuc n *ℤ b) ≤ℤ (negsuc n *ℤ a)
times_negsuc_le zero a b h =
    let x : pos 0 *ℤ a ≡ pos 0 = zero-*ℤ a in let y : pos 0 *ℤ b ≡ pos 0 = zero-*ℤ b in
    let u : negsuc 0 *ℤ a ≡ (pos 0 *ℤ a) -ℤ a = times_first_less a in let v : negsuc 0 *ℤ b ≡ (pos 0 *ℤ b) -ℤ b = times_first_less b in
    omega (arith, ints)
times_negsuc_le (suc n) a b h =
    let more : (negsuc n *ℤ b) ≤ℤ (negsuc n *ℤ a) = times_negsuc_le n a b h in
    let u : negsuc (suc n) *ℤ a ≡ (negsuc n *ℤ a) -ℤ a = times_less n a in let v : negsuc (suc n) *ℤ b ≡ (negsuc n *ℤ b) -ℤ b = times_less n b in
    omega (arith, ints)

-- the lesser of two products is at most the product between
pub min_between : (v l c g : ℤ) → l ≤ℤ c → c ≤ℤ g → int_min (v *ℤ l) (v *ℤ g) ≤ℤ (v *ℤ c)
min_between (pos n) l c g a b =
    let h : (pos n *ℤ l) ≤ℤ (pos n *ℤ c) = times_pos_le n l c a in
    omega (arith, ints, clamps)
min_between (negsuc n) l c g a b =
    let h : (negsuc n *ℤ g) ≤ℤ (negsuc n *ℤ c) = times_negsuc_le n c g b in
    omega (arith, ints, clamps)

pub min_same : (v : ℤ) → int_min v v ≡ v
min_same v = omega (arith, ints, clamps)
