-- Sums over the days, and which numbers of blocks fit.
use Rattle.std.proofs.Common.{◌≡◌, ℕ, zero, suc, ◌+◌, ◌-◌, ◌*◌, ◌/◌, ◌<◌, ◌≤◌, ◌↔◌, IsTrue, min, ℤ, pos, negsuc, neg_ℤ, ◌+ℤ◌, ◌-ℤ◌, ◌≤ℤ◌, ◌<ℤ◌, w64, to_z, of_z, refl, ap, sym, ◌∙◌, arith}
use Rattle.std.specs.Int.{int_max, int_min}
use Rattle.std.specs.Prelude.{nat_abs}
use Rattle.std.specs.Int.Signed.{lt_z, le_z}
use Rattle.std.specs.List.{range_with_len}
use Rattle.std.proofs.lemmas.Int.{ints, clamps, by_lt_z}
use Rattle.std.proofs.lemmas.Nat.{le-div}
use Rattle.std.proofs.Math.Nat.{mul-le-mul_right, div-mul-le_self}
use Rattle.rwsp_terms.specs.declared.data.Symbol.{Symbol}
use Rattle.rwsp_terms.specs.declared.data.Class.TheVariants.{Shift}
use Rattle.rwsp_terms.specs.Instance.{Instance, bounds, cells, greatest, off_symbol, shift_count, symbol_numbered}
use Rattle.refutation_terms.specs.Word.{int_sum_by}
use Rattle.refutation_terms.specs.BlocksLeaf.{BlocksFitBy, BlocksHold, NoBlocksHold, OffBlocksFit, ShiftBlocksFit, least_days, most_days, shortest}
use Rattle.refutation_terms.proofs.Sums.{sum_range}

-- the sum with one day more
pub sum_more : (f : ℕ → ℤ) (n at : ℕ) (sum r new : ℤ) → sum ≡ int_sum_by f (range_with_len 1 n) → r ≡ f at → at ≡ 1 + n → new ≡ sum +ℤ r → new ≡ int_sum_by f (range_with_len 1 (n + 1))
sum_more f n at sum r new is one here more =
    let last : f (1 + n) ≡ int_sum_by f (range_with_len (1 + n) 1) = omega (arith, ints) in
    more ∙ ap (λ z. z +ℤ r) is ∙ ap (λ z. int_sum_by f (range_with_len 1 n) +ℤ z) (one ∙ ap f here ∙ last) ∙ sym (sum_range f 1 n 1)

-- the least number of days of one day is what its parts say, and small
pub max_swapped : (r a z : ℤ) → r ≡ int_max a (pos 0) → a ≡ z → r ≡ int_max (pos 0) z
max_swapped r a z is same = omega (arith, ints, clamps)

pub max_small : (r a : ℤ) → r ≡ int_max a (pos 0) → a ≤ℤ pos 600 → (pos 0 ≤ℤ r) × (r ≤ℤ pos 600)
max_small r a is few = (omega (arith, ints, clamps), omega (arith, ints, clamps))

-- and so is the greatest
pub min_swapped : (r a b z w : ℤ) → r ≡ int_min a b → a ≡ z → b ≡ w → r ≡ int_min w z
min_swapped r a b z w is same here = omega (arith, ints, clamps)

pub min_small : (r a b : ℤ) → r ≡ int_min a b → neg_ℤ (pos 4800) ≤ℤ a → a ≤ℤ pos 600 → pos 0 ≤ℤ b → (neg_ℤ (pos 4800) ≤ℤ r) × (r ≤ℤ pos 600)
min_small r a b is low high some = (omega (arith, ints, clamps), omega (arith, ints, clamps))

pub min_some : (r a b : ℤ) → r ≡ int_min a b → pos 0 ≤ℤ a → pos 0 ≤ℤ b → pos 0 ≤ℤ r
min_some r a b is h k = omega (arith, ints, clamps)

pub greatest_some : (P : Instance) (x j : ℕ) → 0 < x → pos 0 ≤ℤ greatest P x j
greatest_some P zero j shift = absurd (omega arith)
greatest_some P (suc x) j shift = omega (arith, ints)

-- small numbers are read as they are
pub read_days : (z : ℤ) (n : ℕ) → z ≡ pos n → z ≤ℤ pos 42000000 → (to_z w64 (of_z w64 z) ≡ pos n) × (n ≤ 42000000)
read_days z n is few = (omega (arith, ints), omega (arith, ints))

pub read_less : (x y : ℤ) (m n : ℕ) → x ≡ pos m → y ≡ pos n → m ≤ 42000000 → n ≤ 42000000 → to_z w64 (of_z w64 (x -ℤ y)) ≡ pos m -ℤ pos n
read_less x y m n is are few less = omega (arith, ints)

pub read_natural : (z : ℤ) → pos 0 ≤ℤ z → z ≡ pos (nat_abs z)
read_natural (pos n) some = refl
read_natural (negsuc n) some = absurd (omega (arith, ints))

-- tests of numbers
less_decided : (a b : ℤ) → a <ℤ b → IsTrue (lt_z a b)
less_decided a b h = grind (arith, ints)

not_less : (a b : ℤ) → IsTrue (lt_z a b) → b ≤ℤ a → ⊥
not_less a b less h = grind (arith, ints)

at_most_decided : (a b : ℤ) → a ≤ℤ b → IsTrue (le_z a b)
at_most_decided a b h = grind (arith, ints)

is_at_most : (a b : ℤ) → IsTrue (le_z a b) → a ≤ℤ b
is_at_most a b h = grind (arith, ints)

max_bounds : (x y r : ℤ) → r ≡ int_max x y → (x ≤ℤ r) × (y ≤ℤ r)
max_bounds x y r is = (omega (arith, ints, clamps), omega (arith, ints, clamps))

max_least : (x y r z : ℤ) → r ≡ int_max x y → x ≤ℤ z → y ≤ℤ z → r ≤ℤ z
max_least x y r z is h k = omega (arith, ints, clamps)

min_bounds : (x y r : ℤ) → r ≡ int_min x y → (r ≤ℤ x) × (r ≤ℤ y)
min_bounds x y r is = (omega (arith, ints, clamps), omega (arith, ints, clamps))

min_greatest : (x y r z : ℤ) → r ≡ int_min x y → z ≤ℤ x → z ≤ℤ y → z ≤ℤ r
min_greatest x y r z is h k = omega (arith, ints, clamps)

-- so many days are between two ends, and as many as so many blocks can have
abbrev IsBetween : ℤ → ℤ → ℕ → ℕ → ℕ → ℕ → ℕ → ℕ → Type 0
IsBetween least most L a A w W t = (least ≤ℤ pos t) × (pos t ≤ℤ most) × (t ≤ L) × ((a ≤ t) × (t ≤ A)) × ((w ≤ L - t) × (L - t ≤ W))

some_between : (least most : ℤ) (L a A w W : ℕ) (low high : ℤ) → least ≤ℤ low → pos a ≤ℤ low → (pos L -ℤ pos W) ≤ℤ low → high ≤ℤ most → high ≤ℤ pos A → high ≤ℤ (pos L -ℤ pos w) → low ≤ℤ high → (t : ℕ) × IsBetween least most L a A w W t
some_between least most L a A w W (pos t) high h1 h2 h3 h4 h5 h6 le = (
  t,
  (h1, omega (arith, ints), omega (arith, ints), (omega (arith, ints), omega (arith, ints)), (omega (arith, ints), omega (arith, ints))),
)
some_between least most L a A w W (negsuc n) high h1 h2 h3 h4 h5 h6 le = absurd (omega (arith, ints))

-- there is such a number where the greatest of the lower ends is at most the least of the upper ones
between_decided : (least most : ℤ) (L a A w W : ℕ) (one low two high : ℤ) → one ≡ int_max least (pos a) → low ≡ int_max one (pos L -ℤ pos W) → two ≡ int_min most (pos A) → high ≡ int_min two (pos L -ℤ pos w) → IsTrue (le_z low high) ↔ ((t : ℕ) × IsBetween least most L a A w W t)
between_decided least most L a A w W one low two high h i j k =
    let first = max_bounds least (pos a) one h in
    let lower = max_bounds one (pos L -ℤ pos W) low i in
    let second = min_bounds most (pos A) two j in
    let upper = min_bounds two (pos L -ℤ pos w) high k in (
      λ le. some_between least most L a A w W low high (omega (arith, ints, first.0, lower.0)) (omega (arith, ints, first.1, lower.0)) lower.1 (omega (arith, ints, second.0, upper.0)) (omega (arith, ints, second.1, upper.0)) upper.1 (is_at_most low high le),
      λ t.
          let under : low ≤ℤ pos t.0 = max_least one (pos L -ℤ pos W) low (pos t.0) i (max_least least (pos a) one (pos t.0) h t.1.0 (omega (arith, ints, t.1.3.0))) (omega (arith, ints, t.1.2, t.1.4.1)) in
          let over : pos t.0 ≤ℤ high = min_greatest two (pos L -ℤ pos w) high (pos t.0) k (min_greatest most (pos A) two (pos t.0) j t.1.1 (omega (arith, ints, t.1.3.1))) (omega (arith, ints, t.1.2, t.1.4.0)) in
          at_most_decided low high (omega (arith, ints, under, over)),
    )

pub off_decided : (P : Instance) (k : ℕ) (one low two high : ℤ) → one ≡ int_max (least_days P 0) (pos (k * shortest P.off)) → low ≡ int_max one (pos (cells P) -ℤ pos (k * P.work.greatest))
    → two ≡ int_min (most_days P 0) (pos (k * P.off.greatest)) → high ≡ int_min two (pos (cells P) -ℤ pos (k * shortest P.work)) → IsTrue (le_z low high) ↔ OffBlocksFit P k
off_decided P k one low two high h i j l =
    let decided = between_decided (least_days P 0) (most_days P 0) (cells P) (k * shortest P.off) (k * P.off.greatest) (k * shortest P.work) (k * P.work.greatest) one low two high h i j l in
    (λ le. let t = decided.0 le in (t.0, t.1.0, t.1.1, t.1.2, t.1.3, t.1.4), λ t. decided.1 (t.0, (t.1, t.2, t.3, t.4, t.5)))

-- the more blocks, the more days: those that the most days leave room for decide
fewer_days : (k a M room L : ℕ) → 0 < a → k ≤ L → k * a ≤ room → k * M ≤ min (room / a) L * M
fewer_days k a M room L some within fits =
    let most : k ≤ room / a = le-div k room a some fits in
    mul-le-mul_right M (omega arith)

room_kept : (a room L : ℕ) → min (room / a) L * a ≤ room
room_kept a room L =
    let le : min (room / a) L * a ≤ room / a * a = mul-le-mul_right a (omega arith) in
    let most : room / a * a ≤ room = div-mul-le_self room a in
    omega arith

fit_shift : (P : Instance) (n k : ℕ) → 0 < n → BlocksFitBy P n k → ShiftBlocksFit P (symbol_numbered n) k
fit_shift P zero k some fit = absurd (omega arith)
fit_shift P (suc n) k some fit = fit

shift_fit : (P : Instance) (n k : ℕ) → 0 < n → ShiftBlocksFit P (symbol_numbered n) k → BlocksFitBy P n k
shift_fit P zero k some fit = absurd (omega arith)
shift_fit P (suc n) k some fit = fit

pub shift_decided : (P : Instance) (x : Symbol) (room : ℕ) (days least : ℤ) → 0 < x.number → 0 < shortest (bounds P (Shift x)) → most_days P x.number ≡ pos room → days ≡ pos (min (room / shortest (bounds P (Shift x))) (cells P) * (bounds P (Shift x)).greatest) → least ≡ least_days P x.number → IsTrue (lt_z days least) ↔ BlocksHold P x
shift_decided P x room days least shift some is are same =
    let a = shortest (bounds P (Shift x)) in
    let M = (bounds P (Shift x)).greatest in
    let k = min (room / a) (cells P) in (
      λ less j within fit.
          let fits : ShiftBlocksFit P x j = fit_shift P x.number j shift fit in
          let few : j * M ≤ k * M = fewer_days j a M room (cells P) some within (omega (arith, ints, fits.0, is)) in
          not_less days least less (omega (arith, ints, fits.1, few, are, same)),
      λ hold. by_lt_z days least (less_decided days least) (λ le. absurd (hold k (omega arith) (shift_fit P x.number k shift (let kept : k * a ≤ room = room_kept a room (cells P) in omega (arith, ints, is), omega (arith, ints, are, le, same))))),
    )

none_by : (P : Instance) → ((y : Symbol) → 0 < y.number → y.number < shift_count P + 1 → BlocksHold P y → ⊥) → (BlocksHold P off_symbol → ⊥) → (n : ℕ) → n ≤ shift_count P → BlocksHold P (symbol_numbered n) → ⊥
none_by P shifts off zero few hold = off hold
none_by P shifts off (suc n) few hold = shifts (symbol_numbered (suc n)) (omega arith) (omega (arith, few)) hold

pub none_holds : (P : Instance) → ((y : Symbol) → 0 < y.number → y.number < shift_count P + 1 → BlocksHold P y → ⊥) → (BlocksHold P off_symbol → ⊥) → NoBlocksHold P
none_holds P shifts off x few hold = none_by P shifts off x.number few hold
