-- The bits of a number, and the symbols whose bits are set.
use Rattle.std.proofs.Common.{◌≡◌, ℕ, zero, suc, ◌+◌, ◌-◌, ◌*◌, ◌/◌, ◌%◌, ◌^◌, ◌<◌, ◌≤◌, List, [], ◌∷◌, length, Bool, true, false, cond, refl, ap, sym, ◌∙◌, arith, eqb, ltb, leb, inl, inr}
use Rattle.std.specs.Prelude.{◌≢◌, ◌&&◌, not, filter, slice_get, Some}
use Rattle.std.specs.List.{range_with_len}
use Rattle.std.specs.Int.{bit_at, bit_not, w16, trailing_zeros}
use Rattle.std.specs.Int.RustNames.{bit_and, count_ones}
use Rattle.std.proofs.lemmas.Bool.{cases_eq, cases_lt, ne_eqb, eq-eqb}
use Rattle.std.proofs.lemmas.Bool.Decides.{nat_tests}
use Rattle.std.proofs.lemmas.Nat.{one_shl, pow_below, and_le_l, ones_cat, ones-le, ones_le_self, zero_from_ones}
use Rattle.std.proofs.lemmas.Nat.Bits.{bit_at-zero, bit_at-lt, bit_at-pow_same, bit_at-pow_other, bit_at_ones, bit_at_ones_above, bit_at_clear_same, bit_at_clear_other, bit_at-trailing_zeros, bit_at_above, shr_and_one}
use Rattle.std.proofs.Math.Nat.{pow-le-pow_right}
use Rattle.rwsp_terms.specs.declared.limits.TheConstants.{MOST_SYMBOLS}
use Rattle.domain_store.specs.Sets.{has_symbol, without_symbol, symbols_of, bits_of}
use Rattle.domain_store.specs.Bits.{passed, dropped, is_set, is_clear, low_bit, no_bits_left, all_bits, bits_of_symbols}
use Rattle.domain_store.proofs.SetLemmas.{has_filter, range_has}

-- ---- what a test leaves of the n numbers from k on
none-pass : (f : ℕ → Bool) (k n : ℕ) → ((x : ℕ) → k ≤ x → f x ≡ false) → filter f (range_with_len k n) ≡ []
none-pass f k zero fails = refl
none-pass f k (suc n) fails =
    let here : k ≤ k = omega arith in
    dropped f k (range_with_len (k + 1) n) (fails k here)
    ∙ none-pass f (k + 1) n (λ x above. let a : k ≤ x = omega arith in fails x a)

-- those below m
low-pass : (f : ℕ → Bool) (k n m : ℕ) → m ≤ n → ((x : ℕ) → x < k + m → f x ≡ true) → ((x : ℕ) → k + m ≤ x → f x ≡ false) → filter f (range_with_len k n) ≡ range_with_len k m
low-pass f k n zero few passes fails = none-pass f k n (λ x above. let a : k + 0 ≤ x = omega arith in fails x a)
low-pass f k zero (suc m) few passes fails = absurd (omega arith)
low-pass f k (suc n) (suc m) few passes fails =
    let here : k < k + suc m = omega arith in
    let less : m ≤ n = omega arith in
    passed f k (range_with_len (k + 1) n) (passes k here)
    ∙ ap (λ s. k ∷ s) (low-pass f (k + 1) n m less
    (λ x below. let b : x < k + suc m = omega arith in passes x b)
    (λ x above. let a : k + suc m ≤ x = omega arith in fails x a))

-- one alone
one-passes : (f : ℕ → Bool) (k n x : ℕ) → k ≤ x → x < k + n → f x ≡ true → ((y : ℕ) → y ≢ x → f y ≡ false) → filter f (range_with_len k n) ≡ x ∷ []
one-passes f k zero x above below passes fails = absurd (omega arith)
one-passes f k (suc n) x above below passes fails =
    let rest = range_with_len (k + 1) n in
    elim (cases_eq k x) [
      | inl here ↦
          passed f k rest (ap f here ∙ passes)
          ∙ ap (λ s. k ∷ s) (none-pass f (k + 1) n (λ y later. fails y (λ same. omega arith)))
          ∙ ap (λ y. y ∷ []) here
      | inr other ↦
          let a : k + 1 ≤ x = omega arith in
          let b : x < k + 1 + n = omega arith in
          dropped f k rest (fails k other) ∙ one-passes f (k + 1) n x a b passes fails
    ]

-- the first of them
first-passes : (f : ℕ → Bool) (k n x : ℕ) → k ≤ x → x < k + n → f x ≡ true → ((y : ℕ) → y < x → f y ≡ false) → slice_get (filter f (range_with_len k n)) 0 ≡ Some x
first-passes f k zero x above below passes fails = absurd (omega arith)
first-passes f k (suc n) x above below passes fails =
    let rest = range_with_len (k + 1) n in
    elim (cases_eq k x) [
      | inl here ↦ ap (λ s. slice_get s 0) (passed f k rest (ap f here ∙ passes)) ∙ ap Some here
      | inr other ↦
          let less : k < x = omega arith in
          let a : k + 1 ≤ x = omega arith in
          let b : x < k + 1 + n = omega arith in
          ap (λ s. slice_get s 0) (dropped f k rest (fails k less)) ∙ first-passes f (k + 1) n x a b passes fails
    ]

both-first : (f g h : Bool) (k : ℕ) (later rest : List ℕ) (test : ℕ → Bool) → h ≡ (f && g) → test k ≡ g → later ≡ filter test rest → cond h (k ∷ later) later ≡ filter test (cond f (k ∷ rest) rest)
both-first true g h k later rest test both second agree =
    ap (λ b. cond b (k ∷ later) later) (both ∙ sym second) ∙ ap (λ s. cond (test k) (k ∷ s) s) agree
both-first false g h k later rest test both second agree = ap (λ b. cond b (k ∷ later) later) both ∙ agree

-- those that pass both of two tests
both-pass : (f g h : ℕ → Bool) (k n : ℕ) → ((x : ℕ) → x < k + n → h x ≡ (f x && g x)) → filter h (range_with_len k n) ≡ filter g (filter f (range_with_len k n))
both-pass f g h k zero agree = refl
both-pass f g h k (suc n) agree =
    let here : k < k + suc n = omega arith in
    let rest = range_with_len (k + 1) n in
    let later : filter h rest ≡ filter g (filter f rest) = both-pass f g h (k + 1) n (λ x below. let b : x < k + suc n = omega arith in agree x b) in
    both-first (f k) (g k) (h k) k (filter h rest) (filter f rest) g (agree k here) refl later

and-false : (b : Bool) → false ≡ (b && false)
and-false true = refl
and-false false = refl

and-true : (b : Bool) → b ≡ (b && true)
and-true true = refl
and-true false = refl

-- ---- single bits
-- no bit is set
pub no_bits : (n : ℕ) → n ≡ 0 → symbols_of n ≡ []
no_bits n none =
    ap symbols_of none
    ∙ none-pass (λ x. eqb (bit_at 0 x) 1) 0 MOST_SYMBOLS (λ x above. is_clear 0 x (bit_at-zero x))

-- one bit is set
pub one_bit : (x : ℕ) → x < MOST_SYMBOLS → symbols_of (1 * 2 ^ x % 2 ^ 16) ≡ x ∷ []
one_bit x few =
    let within : x < 16 = omega arith in
    let low : 0 ≤ x = omega arith in
    let high : x < 0 + MOST_SYMBOLS = omega arith in
    ap symbols_of (one_shl x 16 within)
    ∙ one-passes (λ y. eqb (bit_at (2 ^ x) y) 1) 0 MOST_SYMBOLS x low high
    (is_set (2 ^ x) x (bit_at-pow_same x)) (λ y other. is_clear (2 ^ x) y (bit_at-pow_other x y other))

pub one_bit_fits : (x : ℕ) → x < MOST_SYMBOLS → 1 * 2 ^ x % 2 ^ 16 < 2 ^ MOST_SYMBOLS
one_bit_fits x few =
    let within : x < 16 = omega arith in
    omega (arith, one_shl x 16 within, pow_below x MOST_SYMBOLS few)

-- the low bits are set
low-ones : (n : ℕ) → n ≤ MOST_SYMBOLS → 1 * 2 ^ n % 2 ^ 16 - 1 ≡ 2 ^ n - 1
low-ones n few = let within : n < 16 = omega arith in ap (λ p. p - 1) (one_shl n 16 within)

pub low_bits : (last : ℕ) → last < MOST_SYMBOLS → symbols_of (1 * 2 ^ (last + 1) % 2 ^ 16 - 1) ≡ range_with_len 0 (last + 1)
low_bits last few =
    let n = last + 1 in
    let most : last + 1 ≤ MOST_SYMBOLS = omega arith in
    ap symbols_of (low-ones (last + 1) most)
    ∙ low-pass (λ y. eqb (bit_at (2 ^ (last + 1) - 1) y) 1) 0 MOST_SYMBOLS (last + 1) most
    (λ y below. let b : y < last + 1 = omega arith in is_set (2 ^ (last + 1) - 1) y (bit_at_ones (last + 1) y b))
    (λ y above. let a : last + 1 ≤ y = omega arith in is_clear (2 ^ (last + 1) - 1) y (bit_at_ones_above (last + 1) y a))

pub low_bits_fit : (last : ℕ) → last < MOST_SYMBOLS → 1 * 2 ^ (last + 1) % 2 ^ 16 - 1 < 2 ^ MOST_SYMBOLS
low_bits_fit last few =
    let most : last + 1 ≤ MOST_SYMBOLS = omega arith in
    let two : 0 < 2 = omega arith in
    omega (arith, low-ones (last + 1) most, pow-le-pow_right two most)

-- a bit is cleared
pub bit_cleared : (n x : ℕ) → x < MOST_SYMBOLS → symbols_of (bit_and n (bit_not w16 (1 * 2 ^ x % 2 ^ 16))) ≡ without_symbol x (symbols_of n)
bit_cleared n x few =
    let within : x < 16 = omega arith in
    let m = bit_and n (bit_not w16 (1 * 2 ^ x % 2 ^ 16)) in
    both-pass (λ y. eqb (bit_at n y) 1) (λ y. not (eqb y x)) (λ y. eqb (bit_at m y) 1) 0 MOST_SYMBOLS (λ y below.
    let b : y < 16 = omega arith in
    elim (cases_eq y x) [
      | inl here ↦
          ap (λ z. eqb (bit_at m z) 1) here ∙ is_clear m x (bit_at_clear_same w16 n x within)
          ∙ and-false (eqb (bit_at n y) 1) ∙ ap (λ t. eqb (bit_at n y) 1 && not t) (sym (eq-eqb y x here))
      | inr other ↦
          ap (λ z. eqb z 1) (bit_at_clear_other w16 n x within y b other)
          ∙ and-true (eqb (bit_at n y) 1) ∙ ap (λ t. eqb (bit_at n y) 1 && not t) (sym (ne_eqb y x other))
    ])

pub cleared_fits : (n m : ℕ) → n < 2 ^ MOST_SYMBOLS → bit_and n m < 2 ^ MOST_SYMBOLS
cleared_fits n m small = omega (arith, and_le_l n m)

-- ---- the test of a symbol
has-symbols : (n x : ℕ) → has_symbol (symbols_of n) x ≡ (eqb (bit_at n x) 1 && (leb 0 x && ltb x (0 + MOST_SYMBOLS)))
has-symbols n x =
    has_filter (λ y. eqb (bit_at n y) 1) x (range_with_len 0 MOST_SYMBOLS)
    ∙ ap (λ b. eqb (bit_at n x) 1 && b) (range_has 0 MOST_SYMBOLS x)

small : (x : ℕ) → x < MOST_SYMBOLS → (leb 0 x && ltb x (0 + MOST_SYMBOLS)) ≡ true
small x few = grind (arith, nat_tests)

large : (x : ℕ) → MOST_SYMBOLS ≤ x → (leb 0 x && ltb x (0 + MOST_SYMBOLS)) ≡ false
large x many = grind (arith, nat_tests)

pub has_bit : (n x : ℕ) → x < MOST_SYMBOLS → eqb (bit_and (n / 2 ^ x) 1) 1 ≡ has_symbol (symbols_of n) x
has_bit n x few =
    ap (λ b. eqb b 1) (shr_and_one n x)
    ∙ and-true (eqb (bit_at n x) 1) ∙ sym (has-symbols n x ∙ ap (λ b. eqb (bit_at n x) 1 && b) (small x few))

pub has_no_bit_past : (n x : ℕ) → MOST_SYMBOLS ≤ x → has_symbol (symbols_of n) x ≡ false
has_no_bit_past n x many =
    has-symbols n x ∙ ap (λ b. eqb (bit_at n x) 1 && b) (large x many) ∙ sym (and-false (eqb (bit_at n x) 1))

pub has_past : (n x y : ℕ) → y ≡ x → MOST_SYMBOLS ≤ y → ltb y MOST_SYMBOLS ≡ has_symbol (symbols_of n) x
has_past n x y same many =
    let past : ltb y MOST_SYMBOLS ≡ false = grind (arith, nat_tests) in
    past ∙ sym (has_no_bit_past n x (rw (← same) many))

-- ---- the lowest symbol
few-zeros : (n t : ℕ) → n < 2 ^ MOST_SYMBOLS → bit_at n t ≡ 1 → t < 0 + MOST_SYMBOLS
few-zeros n t fits one =
    elim (cases_lt t MOST_SYMBOLS) [
      | inl few ↦ few
      | inr many ↦ absurd (omega (arith, bit_at_above n MOST_SYMBOLS t fits many))
    ]

pub lowest_bit : (n : ℕ) → n ≢ 0 → n < 2 ^ MOST_SYMBOLS → slice_get (symbols_of n) 0 ≡ Some (trailing_zeros w16 n)
lowest_bit n some fits =
    let more : 0 < n = omega arith in
    let wide : n < 2 ^ 16 = omega arith in
    let lowest = bit_at-trailing_zeros w16 n more wide in
    let low : 0 ≤ trailing_zeros w16 n = omega arith in
    first-passes (λ y. eqb (bit_at n y) 1) 0 MOST_SYMBOLS (trailing_zeros w16 n) low (few-zeros n (trailing_zeros w16 n) fits lowest.1)
    (is_set n (trailing_zeros w16 n) lowest.1) (λ y below. is_clear n y (lowest.2 y below))

-- ---- how many there are
no-ones : 0 ≡ count_ones 0
no-ones = omega (arith, ones_le_self 0)

single-one : 1 ≡ count_ones 1
single-one =
    elim (cases_eq (count_ones 1) 0) [
      | inl none ↦ absurd (omega (arith, zero_from_ones 1 none))
      | inr some ↦ omega (arith, ones_le_self 1)
    ]

counted : (b k n : ℕ) → length (filter (λ x. eqb (bit_at b x) 1) (range_with_len k n)) ≡ count_ones (b / 2 ^ k % 2 ^ n)
counted b k zero = no-ones ∙ sym (ap count_ones (no_bits_left b k))
counted b k (suc n) =
    let test : ℕ → Bool = λ x. eqb (bit_at b x) 1 in
    let rest = range_with_len (k + 1) n in
    let higher = b / 2 ^ (k + 1) % 2 ^ n in
    let more : count_ones (b / 2 ^ k % 2 ^ suc n) ≡ count_ones higher + count_ones (bit_at b k) = ap count_ones (low_bit b k n) ∙ ones_cat 1 higher (bit_at b k) (bit_at-lt b k) in
    elim (cases_eq (bit_at b k) 1) [
      | inl one ↦
          let here = ap length (passed test k rest (is_set b k one)) in
          let lowest : count_ones (bit_at b k) ≡ 1 = ap count_ones one ∙ sym single-one in
          omega (arith, here, more, lowest, counted b (k + 1) n)
      | inr other ↦
          let none : bit_at b k ≡ 0 = omega (arith, bit_at-lt b k) in
          let here = ap length (dropped test k rest (is_clear b k none)) in
          let lowest : count_ones (bit_at b k) ≡ 0 = ap count_ones none ∙ sym no-ones in
          omega (arith, here, more, lowest, counted b (k + 1) n)
    ]

-- as many as there are ones
pub bits_counted : (n : ℕ) → n < 2 ^ MOST_SYMBOLS → count_ones n ≡ length (symbols_of n)
bits_counted n fits = sym (counted n 0 MOST_SYMBOLS ∙ ap count_ones (all_bits n fits))

pub few_bits : (n : ℕ) → n < 2 ^ MOST_SYMBOLS → count_ones n ≤ MOST_SYMBOLS
few_bits n fits = ones-le MOST_SYMBOLS n fits

-- numbers are told apart by their symbols
pub same_symbols : (a b : ℕ) → a < 2 ^ MOST_SYMBOLS → b < 2 ^ MOST_SYMBOLS → symbols_of a ≡ symbols_of b → a ≡ b
same_symbols a b small fits same = sym (bits_of_symbols a small) ∙ ap bits_of same ∙ bits_of_symbols b fits
