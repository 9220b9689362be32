-- The symbols of a number's bits give the number back, by which a set can be copied.
use Rattle.std.proofs.Common.{◌≡◌, ℕ, zero, suc, ◌+◌, ◌*◌, ◌/◌, ◌%◌, ◌^◌, ◌<◌, List, ◌∷◌, Bool, true, false, cond, filter, eqb, ap, sym, ◌∙◌, inl, inr, arith}
use Rattle.std.specs.Int.{bit_at}
use Rattle.std.specs.List.{range_with_len}
use Rattle.std.proofs.lemmas.Bool.{cases_eq, eq-eqb}
use Rattle.std.proofs.lemmas.Nat.{mod-pow-add, shr-shr}
use Rattle.std.proofs.lemmas.Nat.Bits.{bit_at-lt}
use Rattle.std.proofs.Math.Nat.{pow-suc}
use Rattle.rwsp_terms.specs.declared.limits.TheConstants.{MOST_SYMBOLS}
use Rattle.domain_store.specs.Sets.{symbols_of, bits_of}

-- what a test leaves of a list, by its first number
pub passed : (f : ℕ → Bool) (k : ℕ) (rest : List ℕ) → f k ≡ true → filter f (k ∷ rest) ≡ k ∷ filter f rest
passed f k rest passes = ap (λ b. cond b (k ∷ filter f rest) (filter f rest)) passes

pub dropped : (f : ℕ → Bool) (k : ℕ) (rest : List ℕ) → f k ≡ false → filter f (k ∷ rest) ≡ filter f rest
dropped f k rest fails = ap (λ b. cond b (k ∷ filter f rest) (filter f rest)) fails

-- a bit is 1 or 0
pub is_set : (n x : ℕ) → bit_at n x ≡ 1 → eqb (bit_at n x) 1 ≡ true
is_set n x one = eq-eqb (bit_at n x) 1 one

pub is_clear : (n x : ℕ) → bit_at n x ≡ 0 → eqb (bit_at n x) 1 ≡ false
is_clear n x none = ap (λ b. eqb b 1) none

-- the n bits from k on begin with the bit at k
pub low_bit : (b k n : ℕ) → b / 2 ^ k % 2 ^ suc n ≡ (b / 2 ^ (k + 1) % 2 ^ n) * 2 ^ 1 + bit_at b k
low_bit b k n =
    let more : suc n ≡ n + 1 = omega arith in
    ap (λ m. b / 2 ^ k % 2 ^ m) more
    ∙ mod-pow-add (b / 2 ^ k) n 1
    ∙ ap (λ q. (q % 2 ^ n) * 2 ^ 1 + b / 2 ^ k % 2 ^ 1) (shr-shr b k 1)

pub no_bits_left : (b k : ℕ) → b / 2 ^ k % 2 ^ 0 ≡ 0
no_bits_left b k = omega arith

pub all_bits : (n : ℕ) → n < 2 ^ MOST_SYMBOLS → n / 2 ^ 0 % 2 ^ MOST_SYMBOLS ≡ n
all_bits n fits = omega arith

doubled : (a p : ℕ) → p + a * (p * 2) ≡ (a * 2 ^ 1 + 1) * p
doubled a p = omega arith

doubled-even : (a p : ℕ) → a * (p * 2) ≡ (a * 2 ^ 1 + 0) * p
doubled-even a p = omega arith

summed : (b k n : ℕ) → bits_of (filter (λ x. eqb (bit_at b x) 1) (range_with_len k n)) ≡ (b / 2 ^ k % 2 ^ n) * 2 ^ k
summed b k zero = omega (arith, ap (λ m. m * 2 ^ k) (no_bits_left b k))
summed b k (suc n) =
    let test : ℕ → Bool = λ x. eqb (bit_at b x) 1 in
    let rest = range_with_len (k + 1) n in
    let higher = b / 2 ^ (k + 1) % 2 ^ n in
    let next : k + 1 ≡ suc k = omega arith in
    let twice : 2 ^ (k + 1) ≡ 2 ^ k * 2 = ap (λ j. 2 ^ j) next ∙ pow-suc 2 k in
    let later : bits_of (filter test rest) ≡ higher * (2 ^ k * 2) = summed b (k + 1) n ∙ ap (λ p. higher * p) twice in
    let whole = ap (λ m. m * 2 ^ k) (low_bit b k n) in
    elim (cases_eq (bit_at b k) 1) [
      | inl one ↦
          ap bits_of (passed test k rest (is_set b k one))
          ∙ ap (λ s. 2 ^ k + s) later ∙ doubled higher (2 ^ k)
          ∙ sym (whole ∙ ap (λ r. (higher * 2 ^ 1 + r) * 2 ^ k) one)
      | inr other ↦
          let none : bit_at b k ≡ 0 = omega (arith, bit_at-lt b k) in
          ap bits_of (dropped test k rest (is_clear b k none))
          ∙ later ∙ doubled-even higher (2 ^ k)
          ∙ sym (whole ∙ ap (λ r. (higher * 2 ^ 1 + r) * 2 ^ k) none)
    ]

-- the symbols give the number back
pub bits_of_symbols : (n : ℕ) → n < 2 ^ MOST_SYMBOLS → bits_of (symbols_of n) ≡ n
bits_of_symbols n fits =
    let same : (n / 2 ^ 0 % 2 ^ MOST_SYMBOLS) * 2 ^ 0 ≡ n = omega (arith, all_bits n fits) in
    summed n 0 MOST_SYMBOLS ∙ same
