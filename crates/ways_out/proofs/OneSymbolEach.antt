-- Each cell of a day holds one symbol, so the numbers of the shifts leave one number of days off.
use Rattle.std.proofs.Common.{◌≡◌, ℕ, zero, suc, ◌+◌, ◌-◌, ◌*◌, ◌<◌, ◌≤◌, List, [], ◌∷◌, length, get_or, refl, ap, sym, subst, ◌∙◌, arith, inl, inr, cond, ◌==◌, count_by}
use Rattle.std.specs.Prelude.{fold, slice_get}
use Rattle.std.specs.List.{range_with_len}
use Rattle.std.proofs.lemmas.Int.{ints}
use Rattle.std.proofs.lemmas.Bool.{cases_Bool, cases_lt, eqb-true, eqb-false}
use Rattle.std.proofs.lemmas.List.{get_or_past}
use Rattle.rwsp_terms.specs.declared.data.Bounds.{Bounds}
use Rattle.rwsp_terms.specs.declared.data.Symbol.{Symbol}
use Rattle.rwsp_terms.specs.Instance.{Instance, shift_count, shift_demand, range_in, no_bounds, column_least, column_greatest, off_symbol}
use Rattle.rwsp_terms.specs.Roster.{IsRoster, MeetsDay, weeks_with}
use Rattle.rwsp_terms.proofs.Counting.{count_next}

-- how many of the t numbers from k on are v
abbrev hits : ℕ → ℕ → ℕ → ℕ
hits v k zero = 0
hits v k (suc t) = cond (v == k) 1 0 + hits v (k + 1) t

no_hit : (v k t : ℕ) → v < k → hits v k t ≡ 0
no_hit v k zero less = refl
no_hit v k (suc t) less =
    let rest = no_hit v (k + 1) t (omega (arith, less)) in
    elim (cases_Bool (v == k)) [
      | inl equal ↦ let same = eqb-true v k equal in absurd (omega (arith, less, same))
      | inr unequal ↦ let e : 0 + hits v (k + 1) t ≡ 0 = omega (arith, rest) in ap (λ b. cond b 1 0 + hits v (k + 1) t) unequal ∙ e
    ]

one_hit : (v k t : ℕ) → k ≤ v → v < k + t → hits v k t ≡ 1
one_hit v k zero le less = absurd (omega (arith, le, less))
one_hit v k (suc t) le less = elim (cases_Bool (v == k)) [
  | inl equal ↦ let same = eqb-true v k equal in
      let rest = no_hit v (k + 1) t (omega (arith, same)) in
      let e : 1 + hits v (k + 1) t ≡ 1 = omega (arith, rest) in
      ap (λ b. cond b 1 0 + hits v (k + 1) t) equal ∙ e
  | inr unequal ↦ let other = eqb-false v k unequal in
      let rest = one_hit v (k + 1) t (omega (arith, le, other)) (omega (arith, less)) in
      let e : 0 + hits v (k + 1) t ≡ 1 = omega (arith, rest) in
      ap (λ b. cond b 1 0 + hits v (k + 1) t) unequal ∙ e
]

-- the sum of the counts of t numbers from k on
abbrev total : (ℕ → ℕ) → ℕ → ℕ → ℕ
total c k zero = 0
total c k (suc t) = c k + total c (k + 1) t

-- how many of the values of a function on a range are a number
abbrev equal_count : (ℕ → ℕ) → ℕ → ℕ → ℕ → ℕ
equal_count g a n y = count_by (λ i. g i == y) (range_with_len a n)

total_none : (g : ℕ → ℕ) (k t a : ℕ) → total (equal_count g a zero) k t ≡ 0
total_none g k zero a = refl
total_none g k (suc t) a = let rest = total_none g (k + 1) t a in omega (arith, rest)

total_next : (g : ℕ → ℕ) (k t a n : ℕ) → total (equal_count g a (suc n)) k t ≡ hits (g a) k t + total (equal_count g (a + 1) n) k t
total_next g k zero a n = refl
total_next g k (suc t) a n =
    let one = count_next (λ i. g i == k) a n in
    let more = total_next g (k + 1) t a n in
    omega (arith, one, more)

all_counted : (g : ℕ → ℕ) (t a n : ℕ) → ((i : ℕ) → g i < t) → total (equal_count g a n) 0 t ≡ n
all_counted g t a zero small = total_none g 0 t a
all_counted g t a (suc n) small =
    let one = one_hit (g a) 0 t (omega arith) (let lt = small a in omega (arith, lt)) in
    let rest = all_counted g t (a + 1) n small in
    let next = total_next g 0 t a n in
    omega (arith, one, rest, next)

-- against the sums of the rows
above : (c : ℕ → ℕ) (j k acc : ℕ) (rows : List (List Bounds)) → ((i : ℕ) → i < length rows → c (k + i) ≤ (range_in (slice_get rows i) j).greatest) → acc + total c k (length rows) ≤ fold (λ s row. s + (get_or row j no_bounds).greatest) acc rows
above c j k acc [] each = omega arith
above c j k acc (row ∷ rows) each =
    let same : k + 0 ≡ k = omega arith in
    let here : c k ≤ (get_or row j no_bounds).greatest = subst (λ y. c y ≤ (get_or row j no_bounds).greatest) same (each 0 (omega arith)) in
    let rest = above c j (k + 1) (acc + (get_or row j no_bounds).greatest) rows (λ i less.
    let on : k + suc i ≡ k + 1 + i = omega arith in
    subst (λ y. c y ≤ (range_in (slice_get rows i) j).greatest) on (each (suc i) (omega (arith, less)))) in
    omega (arith, here, rest)

below : (c : ℕ → ℕ) (j k acc : ℕ) (rows : List (List Bounds)) → ((i : ℕ) → i < length rows → (range_in (slice_get rows i) j).least ≤ c (k + i)) → fold (λ s row. s + (get_or row j no_bounds).least) acc rows ≤ acc + total c k (length rows)
below c j k acc [] each = omega arith
below c j k acc (row ∷ rows) each =
    let same : k + 0 ≡ k = omega arith in
    let here : (get_or row j no_bounds).least ≤ c k = subst (λ y. (get_or row j no_bounds).least ≤ c y) same (each 0 (omega arith)) in
    let rest = below c j (k + 1) (acc + (get_or row j no_bounds).least) rows (λ i less.
    let on : k + suc i ≡ k + 1 + i = omega arith in
    subst (λ y. (range_in (slice_get rows i) j).least ≤ c y) on (each (suc i) (omega (arith, less)))) in
    omega (arith, here, rest)

small_at : (most : ℕ) (s : List Symbol) (k : ℕ) → ((k : ℕ) (d : Symbol) → k < length s → (get_or s k d).number ≤ most) → (get_or s k off_symbol).number ≤ most
small_at most s k all = elim (cases_lt k (length s)) [
  | inl less ↦ all k off_symbol less
  | inr past ↦ subst (λ (x : Symbol). x.number ≤ most) (sym (get_or_past s k off_symbol (omega (arith, past)))) (omega arith)
]

-- the numbers of a shift on a day are in its range
abbrev pub IsInRange : Instance → List Symbol → ℕ → ℕ → Type 0
IsInRange P s j y = ((shift_demand P y j).least ≤ weeks_with P s y j) × (weeks_with P s y j ≤ (shift_demand P y j).greatest)

pub day_by_shifts : (P : Instance) (j : ℕ) (s : List Symbol) → length P.demand ≡ shift_count P → IsRoster P s → ((y : ℕ) → 0 < y → y ≤ shift_count P → IsInRange P s j y) → MeetsDay P j s
day_by_shifts P j s rows is each zero le =
    let c : ℕ → ℕ = λ y. weeks_with P s y j in
    let t = length P.demand in
    let g : ℕ → ℕ = λ i. (get_or s (i * P.days + (j - 1)) off_symbol).number in
    let sum : c 0 + total c 1 t ≡ P.weeks =
    all_counted g (suc t) 0 P.weeks (λ i. let small = small_at (shift_count P) s (i * P.days + (j - 1)) is.symbols in omega (arith, rows, small)) in
    let high : 0 + total c 1 t ≤ column_greatest P j =
    above c (j - 1) 1 0 P.demand (λ i less.
    let e : 1 + i - 1 ≡ i = omega arith in
    subst (λ m. c (1 + i) ≤ (range_in (slice_get P.demand m) (j - 1)).greatest) e (each (1 + i) (omega arith) (omega (arith, rows, less))).1) in
    let low : column_least P j ≤ 0 + total c 1 t =
    below c (j - 1) 1 0 P.demand (λ i less.
    let e : 1 + i - 1 ≡ i = omega arith in
    subst (λ m. (range_in (slice_get P.demand m) (j - 1)).least ≤ c (1 + i)) e (each (1 + i) (omega arith) (omega (arith, rows, less))).0) in
    (omega (arith, ints, sum, high), omega (arith, ints, sum, low))
day_by_shifts P j s rows is each (suc y) le =
    let here = each (suc y) (omega arith) le in
    let low = here.0 in
    let high = here.1 in
    (omega (arith, ints, low), omega (arith, ints, high))
