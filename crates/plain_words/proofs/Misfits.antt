-- The test of what is counted is that of the leaf.
use Rattle.std.proofs.Common.{◌≡◌, ◌↔◌, ℕ, zero, suc, ◌+◌, ◌-◌, ◌*◌, ◌<◌, Bool, true, false, IsTrue, ℤ, pos, ◌≤ℤ◌, refl, ap, sym, ◌∙◌, arith}
use Rattle.std.specs.Prelude.{◌&&◌, not, nat_le}
use Rattle.std.specs.Int.Signed.{le_z}
use Rattle.std.specs.List.{list_any, range_with_len}
use Rattle.std.proofs.lemmas.Bool.{le-leb, leb-true, and_from, and_parts}
use Rattle.std.proofs.lemmas.Int.{ints}
use Rattle.std.proofs.lemmas.List.FromFn.{length-range_with_len, get_or-range_with_len}
use Rattle.std.proofs.lemmas.List.Folds.{Any-from_list_any, list_any_at}
use Rattle.rwsp_terms.specs.declared.data.Bounds.{Bounds}
use Rattle.rwsp_terms.specs.declared.data.Symbol.{Symbol}
use Rattle.rwsp_terms.specs.declared.data.Class.TheVariants.{Shift}
use Rattle.rwsp_terms.specs.Instance.{Instance, bounds, cells, symbol_numbered}
use Rattle.refutation_terms.specs.BlocksLeaf.{BlocksFitBy, BlocksHold, CanBe, least_days, most_days, shortest}
use Rattle.plain_words.specs.Counting.{can_be, off_days_fit, blocks_fit, is_misfit}

-- tests of numbers
at_most_decided : (a b : ℤ) → a ≤ℤ b → le_z a b ≡ true
at_most_decided a b h = grind (arith, ints)

pub is_at_most : (a b : ℤ) → le_z a b ≡ true → a ≤ℤ b
is_at_most a b h = grind (arith, ints)

-- a number passes a test
pub record Passes (p : ℕ → Bool) (a n : ℕ) : Type 0 where
  pub place : ℕ
  pub within : place < n
  pub there : p (a + place) ≡ true

some_passes : (p : ℕ → Bool) (a n : ℕ) → list_any p (range_with_len a n) ≡ true → Passes p a n
some_passes p a n h =
    let found = Any-from_list_any p (range_with_len a n) h in
    let long = length-range_with_len a n in
    let within = found.2 in
    let less : found.0 < n = omega (arith, long, within) in
    record { place = found.0; within = less; there = ap p (sym (get_or-range_with_len a n found.0 found.1 less) ∙ found.3) ∙ found.4 }

passes_some : (p : ℕ → Bool) (a n k : ℕ) → k < n → p (a + k) ≡ true → list_any p (range_with_len a n) ≡ true
passes_some p a n k within here =
    let long = length-range_with_len a n in
    list_any_at p (range_with_len a n) k 0 (omega (arith, long, within)) (ap p (get_or-range_with_len a n k 0 within) ∙ here)

-- so many blocks can have so many days
can_decided : (b : Bounds) (k t : ℕ) → CanBe b k t → can_be b k t ≡ true
can_decided b k t can = and_from (nat_le (k * shortest b) t) (nat_le t (k * b.greatest)) (le-leb (k * shortest b) t can.0) (le-leb t (k * b.greatest) can.1)

is_can : (b : Bounds) (k t : ℕ) → can_be b k t ≡ true → CanBe b k t
is_can b k t h = (
  leb-true (k * shortest b) t (and_parts (nat_le (k * shortest b) t) (nat_le t (k * b.greatest)) h).0,
  leb-true t (k * b.greatest) (and_parts (nat_le (k * shortest b) t) (nat_le t (k * b.greatest)) h).1,
)

-- the tests of the two kinds of symbols
off_decided : (P : Instance) (k t : ℕ) → off_days_fit P k t ≡ true → (least_days P 0 ≤ℤ pos t) × (pos t ≤ℤ most_days P 0) × CanBe P.off k t × CanBe P.work k (cells P - t)
off_decided P k t h =
    let low = le_z (least_days P 0) (pos t) in
    let high = le_z (pos t) (most_days P 0) in
    let off = can_be P.off k t in
    let work = can_be P.work k (cells P - t) in
    let last = and_parts ((low && high) && off) work h in
    let third = and_parts (low && high) off last.0 in
    let first = and_parts low high third.0 in
    (is_at_most (least_days P 0) (pos t) first.0, is_at_most (pos t) (most_days P 0) first.1, is_can P.off k t third.1, is_can P.work k (cells P - t) last.1)

fits_as_tested : (P : Instance) (x k : ℕ) → blocks_fit P x k ≡ true → BlocksFitBy P x k
fits_as_tested P zero k h =
    let found = some_passes (off_days_fit P k) 0 (cells P + 1) h in
    let fits = off_decided P k (0 + found.place) found.there in
    let less = found.within in
    (0 + found.place, fits.0, fits.1, omega (arith, less), fits.2, fits.3)
fits_as_tested P (suc x) k h =
    let b = bounds P (Shift (symbol_numbered (suc x))) in
    let parts = and_parts (le_z (pos (k * shortest b)) (most_days P (suc x))) (le_z (least_days P (suc x)) (pos (k * b.greatest))) h in
    (is_at_most (pos (k * shortest b)) (most_days P (suc x)) parts.0, is_at_most (least_days P (suc x)) (pos (k * b.greatest)) parts.1)

tested_as_fits : (P : Instance) (x k : ℕ) → BlocksFitBy P x k → blocks_fit P x k ≡ true
tested_as_fits P zero k fits =
    let t = fits.0 in
    let low = at_most_decided (least_days P 0) (pos t) fits.1 in
    let high = at_most_decided (pos t) (most_days P 0) fits.2 in
    let off = can_decided P.off k t fits.4 in
    let work = can_decided P.work k (cells P - t) fits.5 in
    let within = fits.3 in
    let test : off_days_fit P k t ≡ true = and_from ((le_z (least_days P 0) (pos t) && le_z (pos t) (most_days P 0)) && can_be P.off k t) (can_be P.work k (cells P - t)) (and_from (le_z (least_days P 0) (pos t) && le_z (pos t) (most_days P 0)) (can_be P.off k t) (and_from (le_z (least_days P 0) (pos t)) (le_z (pos t) (most_days P 0)) low high) off) work in
    let e : 0 + t ≡ t = omega arith in
    passes_some (off_days_fit P k) 0 (cells P + 1) t (omega (arith, within)) (ap (off_days_fit P k) e ∙ test)
tested_as_fits P (suc x) k fits =
    let b = bounds P (Shift (symbol_numbered (suc x))) in
    and_from (le_z (pos (k * shortest b)) (most_days P (suc x))) (le_z (least_days P (suc x)) (pos (k * b.greatest))) (at_most_decided (pos (k * shortest b)) (most_days P (suc x)) fits.0) (at_most_decided (least_days P (suc x)) (pos (k * b.greatest)) fits.1)

-- the test of a symbol is that of its leaf
none_fits : (P : Instance) (x : Symbol) (some : Bool) → list_any (blocks_fit P x.number) (range_with_len 0 (cells P + 1)) ≡ some → not some ≡ true → BlocksHold P x
none_fits P x true is none = absurd (cc)
none_fits P x false is none = λ k within fits.
    let e : 0 + k ≡ k = omega arith in
    let h : list_any (blocks_fit P x.number) (range_with_len 0 (cells P + 1)) ≡ true = passes_some (blocks_fit P x.number) 0 (cells P + 1) k (omega (arith, within)) (ap (blocks_fit P x.number) e ∙ tested_as_fits P x.number k fits) in
    absurd (cc)

hold_none : (P : Instance) (x : Symbol) (some : Bool) → list_any (blocks_fit P x.number) (range_with_len 0 (cells P + 1)) ≡ some → BlocksHold P x → not some ≡ true
hold_none P x false is hold = refl
hold_none P x true is hold =
    let found = some_passes (blocks_fit P x.number) 0 (cells P + 1) is in
    let less = found.within in
    absurd (hold (0 + found.place) (omega (arith, less)) (fits_as_tested P x.number (0 + found.place) found.there))

pub misfits_are_leaves : (P : Instance) (x : Symbol) → (is_misfit P x ≡ true) ↔ BlocksHold P x
misfits_are_leaves P x = (none_fits P x (list_any (blocks_fit P x.number) (range_with_len 0 (cells P + 1))) refl, hold_none P x (list_any (blocks_fit P x.number) (range_with_len 0 (cells P + 1))) refl)

-- two tests of one thing
same_test : (b c : Bool) (Q : Type 0) → (b ≡ true) ↔ Q → (c ≡ true) ↔ Q → b ≡ c
same_test true c Q one other = sym (other.1 (one.0 refl))
same_test false true Q one other = one.1 (other.0 refl)
same_test false false Q one other = refl

pub test_is_leaf : (P : Instance) (x : Symbol) (r : Bool) → (IsTrue r ↔ BlocksHold P x) → r ≡ is_misfit P x
test_is_leaf P x r decided = same_test r (is_misfit P x) (BlocksHold P x) decided (misfits_are_leaves P x)
