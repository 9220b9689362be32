-- On each day the hidden roster holds what the problem demands.
use Rattle.std.proofs.Common.{◌≡◌, ℕ, zero, suc, ◌+◌, ◌-◌, ◌*◌, ◌<◌, ◌≤◌, List, [], ◌∷◌, get_or, cond, eqb, refl, ap, arith, pos, ◌-ℤ◌, ◌≤ℤ◌}
use Rattle.std.specs.Prelude.{count_by}
use Rattle.std.specs.List.{AllByRecursion, range_with_len}
use Rattle.std.proofs.lemmas.Int.{ints}
use Rattle.std.proofs.lemmas.List.FromFn.{get_or-map-range_with_len}
use Rattle.rwsp_terms.specs.Instance.{off_symbol, no_bounds, shift_demand, column_least, column_greatest}
use Rattle.rwsp_terms.specs.Roster.{MeetsDay}
use Rattle.rwsp_terms.specs.declared.data.Symbol.{Symbol}
use Rattle.rwsp_terms.specs.declared.data.Bounds.{Bounds}
use Rattle.rwsp_terms.proofs.Counting.{count_next}
use Rattle.made_problems.specs.Generated.{range, count_on, demand_row, problem_of}

-- a number up to 3 is one of four
one_of_four : (m : ℕ) → m ≤ 3 → cond (eqb m 0) 1 0 + (cond (eqb m 1) 1 0 + cond (eqb m 2) 1 0 + cond (eqb m 3) 1 0) ≡ 1
one_of_four zero h = refl
one_of_four (suc zero) h = refl
one_of_four (suc (suc zero)) h = refl
one_of_four (suc (suc (suc zero))) h = refl
one_of_four (suc (suc (suc (suc m)))) h = absurd (omega (arith, h))

abbrev count_equal : (ℕ → ℕ) → ℕ → ℕ → ℕ → ℕ
count_equal g x a n = count_by (λ i. eqb (g i) x) (range_with_len a n)

four_counts : (g : ℕ → ℕ) (a n : ℕ) → ((i : ℕ) → g i ≤ 3) → count_equal g 0 a n + (count_equal g 1 a n + count_equal g 2 a n + count_equal g 3 a n) ≡ n
four_counts g a zero small = refl
four_counts g a (suc n) small =
    let rest = four_counts g (a + 1) n small in
    let one = one_of_four (g a) (small a) in
    let e0 = count_next (λ i. eqb (g i) 0) a n in
    let e1 = count_next (λ i. eqb (g i) 1) a n in
    let e2 = count_next (λ i. eqb (g i) 2) a n in
    let e3 = count_next (λ i. eqb (g i) 3) a n in
    omega arith

-- symbols up to 3, also past the end
small_at : (s : List Symbol) (q : ℕ) → AllByRecursion (λ y. y.number ≤ 3) s → (get_or s q off_symbol).number ≤ 3
small_at [] q h = omega arith
small_at (y ∷ s) zero h = h.0
small_at (y ∷ s) (suc q) h = small_at s q h.1

counts_add_up : (weeks : ℕ) (s : List Symbol) (j : ℕ) → AllByRecursion (λ y. y.number ≤ 3) s → count_on weeks s 0 j + (count_on weeks s 1 j + count_on weeks s 2 j + count_on weeks s 3 j) ≡ weeks
counts_add_up weeks s j h = four_counts (λ i. (get_or s (i * 7 + (j - 1)) off_symbol).number) 0 weeks (λ i. small_at s (i * 7 + (j - 1)) h)

row_at : (weeks : ℕ) (s : List Symbol) (x j : ℕ) → 0 < j → j ≤ 7 → get_or (demand_row weeks s x) (j - 1) no_bounds ≡ range (count_on weeks s x j) (count_on weeks s x j)
row_at weeks s x j some few =
    get_or-map-range_with_len (λ k. range (count_on weeks s x k) (count_on weeks s x k)) 1 7 (j - 1) j no_bounds (omega arith) (omega arith)

demand_at : (weeks : ℕ) (s : List Symbol) (x j : ℕ) → x < 3 → 0 < j → j ≤ 7 → shift_demand (problem_of weeks s) (suc x) j ≡ range (count_on weeks s (suc x) j) (count_on weeks s (suc x) j)
demand_at weeks s zero j less some few = row_at weeks s 1 j some few
demand_at weeks s (suc zero) j less some few = row_at weeks s 2 j some few
demand_at weeks s (suc (suc zero)) j less some few = row_at weeks s 3 j some few
demand_at weeks s (suc (suc (suc x))) j less some few = absurd (omega (arith, less))

added : (a b d x y z : ℕ) → a ≡ x → b ≡ y → d ≡ z → 0 + a + b + d ≡ x + y + z
added a b d x y z p q r = omega arith

column_at : (weeks : ℕ) (s : List Symbol) (j : ℕ) → 0 < j → j ≤ 7 → (column_least (problem_of weeks s) j ≡ count_on weeks s 1 j + count_on weeks s 2 j + count_on weeks s 3 j) × (column_greatest (problem_of weeks s) j ≡ count_on weeks s 1 j + count_on weeks s 2 j + count_on weeks s 3 j)
column_at weeks s j some few =
    let a = row_at weeks s 1 j some few in
    let b = row_at weeks s 2 j some few in
    let d = row_at weeks s 3 j some few in
    let a0 : (get_or (demand_row weeks s 1) (j - 1) no_bounds).least ≡ count_on weeks s 1 j = ap (λ (r : Bounds). r.least) a in
    let b0 : (get_or (demand_row weeks s 2) (j - 1) no_bounds).least ≡ count_on weeks s 2 j = ap (λ (r : Bounds). r.least) b in
    let d0 : (get_or (demand_row weeks s 3) (j - 1) no_bounds).least ≡ count_on weeks s 3 j = ap (λ (r : Bounds). r.least) d in
    let a1 : (get_or (demand_row weeks s 1) (j - 1) no_bounds).greatest ≡ count_on weeks s 1 j = ap (λ (r : Bounds). r.greatest) a in
    let b1 : (get_or (demand_row weeks s 2) (j - 1) no_bounds).greatest ≡ count_on weeks s 2 j = ap (λ (r : Bounds). r.greatest) b in
    let d1 : (get_or (demand_row weeks s 3) (j - 1) no_bounds).greatest ≡ count_on weeks s 3 j = ap (λ (r : Bounds). r.greatest) d in
    (added _ _ _ _ _ _ a0 b0 d0, added _ _ _ _ _ _ a1 b1 d1)

off_between : (weeks off m n : ℕ) → off + m ≡ weeks → n ≡ m → ((pos weeks -ℤ pos n) ≤ℤ pos off) × (pos off ≤ℤ (pos weeks -ℤ pos n))
off_between weeks off m n e same = (omega (arith, ints), omega (arith, ints))

shift_between : (b : Bounds) (n : ℕ) → b ≡ range n n → (pos b.least ≤ℤ pos n) × (pos n ≤ℤ pos b.greatest)
shift_between b n e =
    let low = ap (λ (r : Bounds). r.least) e in
    let high = ap (λ (r : Bounds). r.greatest) e in
    (omega (arith, ints), omega (arith, ints))

pub meets_days : (weeks : ℕ) (s : List Symbol) (j : ℕ) → 0 < j → j ≤ 7 → AllByRecursion (λ y. y.number ≤ 3) s → MeetsDay (problem_of weeks s) j s
meets_days weeks s j some few h zero le =
    let column = column_at weeks s j some few in
    let sum = counts_add_up weeks s j h in
    let m = count_on weeks s 1 j + count_on weeks s 2 j + count_on weeks s 3 j in
    ((off_between weeks (count_on weeks s 0 j) m (column_greatest (problem_of weeks s) j) sum column.1).0, (off_between weeks (count_on weeks s 0 j) m (column_least (problem_of weeks s) j) sum column.0).1)
meets_days weeks s j some few h (suc x) le =
    shift_between (shift_demand (problem_of weeks s) (suc x) j) (count_on weeks s (suc x) j) (demand_at weeks s x j (omega (arith, le)) some few)
