-- Counts and tests over numbers in a row.
use Rattle.std.proofs.Common.{◌≡◌, ℕ, zero, suc, ◌+◌, ◌<◌, ◌≤◌, [], ◌∷◌, ◌++◌, Bool, true, false, cond, refl, ap, sym, subst, ◌∙◌, arith}
use Rattle.std.specs.Prelude.{count_by}
use Rattle.std.specs.List.{range_with_len, list_all}
use Rattle.std.proofs.lemmas.Bool.{and_from, and_parts, and_left, and_right}
use Rattle.std.proofs.lemmas.List.Sums.{sum_by-append, sum_by-cons}

pub range_more : (a n : ℕ) → range_with_len a (n + 1) ≡ range_with_len a n ++ (a + n) ∷ []
range_more a zero = let e : a ≡ a + 0 = omega arith in ap (λ k. k ∷ []) e
range_more a (suc n) =
    let e : suc n + 1 ≡ suc (n + 1) = omega arith in
    let f : a + 1 + n ≡ a + suc n = omega arith in
    ap (range_with_len a) e ∙ ap (λ ks. a ∷ ks) (range_more (a + 1) n ∙ ap (λ k. range_with_len (a + 1) n ++ k ∷ []) f)

-- a count over one number more, behind the others
count_more : (p : ℕ → Bool) (n : ℕ) → count_by p (range_with_len 0 (n + 1)) ≡ count_by p (range_with_len 0 n) + cond (p n) 1 0
count_more p n =
    let e : 0 + n ≡ n = omega arith in
    ap (count_by p) (range_more 0 n ∙ ap (λ k. range_with_len 0 n ++ k ∷ []) e)
    ∙ sum_by-append (λ k. cond (p k) 1 0) (range_with_len 0 n) (n ∷ [])
    ∙ ap (λ k. count_by p (range_with_len 0 n) + k) (omega arith)

pub count_then : (p : ℕ → Bool) (n count : ℕ) → count ≡ count_by p (range_with_len 0 n) → p n ≡ true → count + 1 ≡ count_by p (range_with_len 0 (n + 1))
count_then p n count e h = ap (λ k. k + 1) e ∙ ap (λ b. count_by p (range_with_len 0 n) + cond b 1 0) (sym h) ∙ sym (count_more p n)

pub count_else : (p : ℕ → Bool) (n count : ℕ) → count ≡ count_by p (range_with_len 0 n) → p n ≡ false → count ≡ count_by p (range_with_len 0 (n + 1))
count_else p n count e h =
    let same : count_by p (range_with_len 0 n) ≡ count_by p (range_with_len 0 n) + 0 = omega arith in
    e ∙ same ∙ ap (λ b. count_by p (range_with_len 0 n) + cond b 1 0) (sym h) ∙ sym (count_more p n)

-- a count over one number more, before the others
pub count_next : (f : ℕ → Bool) (a n : ℕ) → count_by f (range_with_len a (suc n)) ≡ cond (f a) 1 0 + count_by f (range_with_len (a + 1) n)
count_next f a n = sum_by-cons (λ x. cond (f x) 1 0) a (range_with_len (a + 1) n)

-- two tests that agree on a range count the same there
pub count_same : (f g : ℕ → Bool) (a n : ℕ) → ((i : ℕ) → a ≤ i → i < a + n → f i ≡ g i) → count_by f (range_with_len a n) ≡ count_by g (range_with_len a n)
count_same f g a zero same = refl
count_same f g a (suc n) same =
    let here : f a ≡ g a = same a (omega arith) (omega arith) in
    let more : count_by f (range_with_len (a + 1) n) ≡ count_by g (range_with_len (a + 1) n) = count_same f g (a + 1) n (λ i le lt. same i (omega (arith, le)) (omega (arith, lt))) in
    count_next f a n ∙ ap (λ b. cond b 1 0 + count_by f (range_with_len (a + 1) n)) here ∙ ap (λ c. cond (g a) 1 0 + c) more ∙ sym (count_next g a n)

-- where each that passes one test passes another, no more pass the one
pub cond_mono : (b c : Bool) → (b ≡ true → c ≡ true) → cond b 1 0 ≤ cond c 1 0
cond_mono true true h = omega arith
cond_mono true false h = let e : false ≡ true = h refl in absurd (cc)
cond_mono false true h = omega arith
cond_mono false false h = omega arith

pub count_mono : (f g : ℕ → Bool) (a n : ℕ) → ((i : ℕ) → a ≤ i → i < a + n → f i ≡ true → g i ≡ true) → count_by f (range_with_len a n) ≤ count_by g (range_with_len a n)
count_mono f g a zero h = omega arith
count_mono f g a (suc n) h =
    let here : cond (f a) 1 0 ≤ cond (g a) 1 0 = cond_mono (f a) (g a) (h a (omega arith) (omega arith)) in
    let more : count_by f (range_with_len (a + 1) n) ≤ count_by g (range_with_len (a + 1) n) = count_mono f g (a + 1) n (λ i le lt. h i (omega (arith, le)) (omega (arith, lt))) in
    let e : count_by f (range_with_len a (suc n)) ≡ cond (f a) 1 0 + count_by f (range_with_len (a + 1) n) = count_next f a n in
    let d : count_by g (range_with_len a (suc n)) ≡ cond (g a) 1 0 + count_by g (range_with_len (a + 1) n) = count_next g a n in
    omega arith

-- one number more passes the test of all
all_more : (test : ℕ → Bool) (a n : ℕ) → list_all test (range_with_len a n) ≡ true → test (a + n) ≡ true → list_all test (range_with_len a (suc n)) ≡ true
all_more test a zero all here = let e : a + 0 ≡ a = omega arith in and_from (test a) true (sym (ap test e) ∙ here) refl
all_more test a (suc n) all here =
    let parts = and_parts (test a) (list_all test (range_with_len (a + 1) n)) all in
    let e : a + suc n ≡ a + 1 + n = omega arith in
    and_from (test a) (list_all test (range_with_len (a + 1) (suc n))) parts.0 (all_more test (a + 1) n parts.1 (sym (ap test e) ∙ here))

pub all_one_more : (test : ℕ → Bool) (n : ℕ) → list_all test (range_with_len 0 n) ≡ true → test n ≡ true → list_all test (range_with_len 0 (n + 1)) ≡ true
all_one_more test n all here =
    let e : suc n ≡ n + 1 = omega arith in
    let z : n ≡ 0 + n = omega arith in
    subst (λ m. list_all test (range_with_len 0 m) ≡ true) e (all_more test 0 n all (sym (ap test z) ∙ here))

-- one number fails it
all_fails : (test : ℕ → Bool) (a n i : ℕ) → i < n → test (a + i) ≡ false → list_all test (range_with_len a n) ≡ false
all_fails test a zero i lt fails = absurd (omega (arith, lt))
all_fails test a (suc n) zero lt fails = let e : a + 0 ≡ a = omega arith in and_left (test a) (list_all test (range_with_len (a + 1) n)) (sym (ap test e) ∙ fails)
all_fails test a (suc n) (suc i) lt fails =
    let e : a + suc i ≡ a + 1 + i = omega arith in
    and_right (test a) (list_all test (range_with_len (a + 1) n)) (all_fails test (a + 1) n i (omega (arith, lt)) (sym (ap test e) ∙ fails))

pub not_all : (test : ℕ → Bool) (n i : ℕ) → i < n → test i ≡ false → list_all test (range_with_len 0 n) ≡ false
not_all test n i lt h = let e : 0 + i ≡ i = omega arith in all_fails test 0 n i lt (ap test e ∙ h)
