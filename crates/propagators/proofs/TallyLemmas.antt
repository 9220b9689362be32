-- Counts over a range, and counters after one set has changed.
use Rattle.std.proofs.Common.{◌≡◌, ◌≢◌, ℕ, zero, suc, ◌+◌, ◌-◌, ◌*◌, ◌/◌, ◌%◌, ◌<◌, ◌≤◌, List, [], length, get_or, set, refl, ap, sym, ◌∙◌, arith, Bool, true, false, count_by, subst, get_or-set_same, get_or-set_other, inl, inr, replicate, ◌++◌, take, drop, ◌||◌, ◌==◌, not}
use Rattle.std.specs.List.{range_with_len, list_all}
use Rattle.std.proofs.lemmas.Bool.{cases_order, cases_eq, and_right}
use Rattle.std.proofs.lemmas.List.{length-set, length-replicate, ext_get_or, get_or_read, drop_all, take_all, append-nil}
use Rattle.std.proofs.lemmas.List.Sums.{count_by-le-length}
use Rattle.std.proofs.lemmas.List.FromFn.{length-range_with_len}
use Rattle.std.proofs.lemmas.Nat.{div_below, mod_below, div-mul-add, mod-mul-add, div-add-mod'}
use Rattle.rwsp_terms.specs.declared.limits.TheConstants.{MOST_WEEKS, MOST_CELLS, MOST_SHIFTS, MOST_SYMBOLS}
use Rattle.rwsp_terms.proofs.Counting.{count_next, count_same, not_all}
use Rattle.domain_store.specs.Sets.{has_symbol}
use Rattle.domain_store.specs.Store.{Store, domain_at}
use Rattle.propagators.specs.Counted.{Counted, StandsFor, HasShapeOf, DiffersAtMostAt, with_set}
use Rattle.propagators.specs.Tallies.{column_count, Tallies, TestsOf, IsRecounted, IsTallied, is_held, is_alone, one_if}
use Rattle.refutation_terms.proofs.Alone.{other_fails}

-- two tests that agree on a range but at one number
pub count_apart : (f g : ℕ → Bool) (a n i : ℕ) → a ≤ i → i < a + n → ((j : ℕ) → j ≢ i → f j ≡ g j) → count_by f (range_with_len a n) + one_if (g i) ≡ count_by g (range_with_len a n) + one_if (f i)
count_apart f g a zero i le lt same = absurd (omega (arith, le, lt))
count_apart f g a (suc n) i le lt same =
    let e : count_by f (range_with_len a (suc n)) ≡ one_if (f a) + count_by f (range_with_len (a + 1) n) = count_next f a n in
    let d : count_by g (range_with_len a (suc n)) ≡ one_if (g a) + count_by g (range_with_len (a + 1) n) = count_next g a n in
    elim (cases_eq a i) [
      | inl here ↦
          let later : count_by f (range_with_len (a + 1) n) ≡ count_by g (range_with_len (a + 1) n) = count_same f g (a + 1) n (λ j above below. same j (omega (arith, above, here))) in
          let first : one_if (f a) ≡ one_if (f i) = ap (λ k. one_if (f k)) here in
          let second : one_if (g a) ≡ one_if (g i) = ap (λ k. one_if (g k)) here in
          omega arith
      | inr other ↦
          let first : one_if (f a) ≡ one_if (g a) = ap (λ b. one_if b) (same a other) in
          let next : a + 1 ≤ i = omega arith in
          let rest : count_by f (range_with_len (a + 1) n) + one_if (g i) ≡ count_by g (range_with_len (a + 1) n) + one_if (f i) = count_apart f g (a + 1) n i next (omega (arith, lt)) same in
          omega arith
    ]

-- a number of the range that passes is counted
pub count_has : (f : ℕ → Bool) (a n i : ℕ) → a ≤ i → i < a + n → one_if (f i) ≤ count_by f (range_with_len a n)
count_has f a zero i le lt = absurd (omega (arith, le, lt))
count_has f a (suc n) i le lt =
    let e : count_by f (range_with_len a (suc n)) ≡ one_if (f a) + count_by f (range_with_len (a + 1) n) = count_next f a n in
    elim (cases_eq a i) [
      | inl here ↦
          let first : one_if (f a) ≡ one_if (f i) = ap (λ k. one_if (f k)) here in
          omega arith
      | inr other ↦
          let next : a + 1 ≤ i = omega arith in
          let rest : one_if (f i) ≤ count_by f (range_with_len (a + 1) n) = count_has f (a + 1) n i next (omega (arith, lt)) in
          omega arith
    ]

pub count_none : (f : ℕ → Bool) (a n : ℕ) → ((i : ℕ) → f i ≡ false) → count_by f (range_with_len a n) ≡ 0
count_none f a zero none = refl
count_none f a (suc n) none =
    let e : count_by f (range_with_len a (suc n)) ≡ one_if (f a) + count_by f (range_with_len (a + 1) n) = count_next f a n in
    let here : one_if (f a) ≡ 0 = ap (λ b. one_if b) (none a) in
    let rest : count_by f (range_with_len (a + 1) n) ≡ 0 = count_none f (a + 1) n none in
    omega arith

-- a column has no more sets than there are weeks
pub column_small : (test : List ℕ → Bool) (days weeks : ℕ) (sets : List (List ℕ)) (k : ℕ) → column_count test days weeks sets k ≤ weeks
column_small test days weeks sets k =
    let most : column_count test days weeks sets k ≤ length (range_with_len 0 weeks) = count_by-le-length (λ i. test (get_or sets (i * days + k) [])) (range_with_len 0 weeks) in
    omega (arith, length-range_with_len 0 weeks)

-- a position is in one column, once
in_column : (p days i k : ℕ) → k < days → i * days + k ≡ p → k ≡ p % days
in_column p days i k lt e = sym (mod-mul-add i days k lt) ∙ ap (λ n. n % days) e

in_week : (p days i k : ℕ) → k < days → i * days + k ≡ p → i ≡ p / days
in_week p days i k lt e = sym (div-mul-add i days k lt) ∙ ap (λ n. n / days) e

-- one set changes: the other columns stay
pub column_other : (test : List ℕ → Bool) (days weeks : ℕ) (sets : List (List ℕ)) (p k : ℕ) (after : List ℕ) → k < days → k ≢ p % days → column_count test days weeks (set sets p after) k ≡ column_count test days weeks sets k
column_other test days weeks sets p k after lt other =
    count_same (λ i. test (get_or (set sets p after) (i * days + k) [])) (λ i. test (get_or sets (i * days + k) [])) 0 weeks
    (λ i le less. ap test (get_or-set_other sets p (i * days + k) after [] (λ e. other (in_column p days i k lt e))))

-- and its own column counts it in place of what was there
pub column_own : (test : List ℕ → Bool) (days weeks : ℕ) (sets : List (List ℕ)) (p : ℕ) (after : List ℕ) → 0 < days → p < weeks * days → p < length sets
    → column_count test days weeks (set sets p after) (p % days) + one_if (test (get_or sets p [])) ≡ column_count test days weeks sets (p % days) + one_if (test after)
column_own test days weeks sets p after some lt within =
    let k = p % days in
    let i = p / days in
    let small : p % days < days = mod_below p days some in
    let week : p / days < 0 + weeks = omega (arith, div_below p days weeks some lt) in
    let place : p / days * days + p % days ≡ p = div-add-mod' p days in
    let apart = count_apart (λ i. test (get_or (set sets p after) (i * days + p % days) [])) (λ i. test (get_or sets (i * days + p % days) [])) 0 weeks (p / days) (omega arith) week
    (λ j other. ap test (get_or-set_other sets p (j * days + p % days) after [] (λ e. other (in_week p days j (p % days) small e)))) in
    let before : test (get_or sets (p / days * days + p % days) []) ≡ test (get_or sets p []) = ap (λ q. test (get_or sets q [])) place in
    let now : test (get_or (set sets p after) (p / days * days + p % days) []) ≡ test after = ap (λ q. test (get_or (set sets p after) q [])) place ∙ ap test (get_or-set_same sets p after [] within) in
    let b : one_if (test (get_or sets (p / days * days + p % days) [])) ≡ one_if (test (get_or sets p [])) = ap (λ t. one_if t) before in
    let n : one_if (test (get_or (set sets p after) (p / days * days + p % days) [])) ≡ one_if (test after) = ap (λ t. one_if t) now in
    omega (arith, apart, b, n)

-- a counter counts the set of its position
pub tally_has : (test : ℕ → List ℕ → Bool) (days weeks : ℕ) (sets : List (List ℕ)) (p : ℕ) (before : List ℕ) (were : List Bool) (row : ℕ) (old : List ℕ)
    → Tallies test days weeks sets old → 0 < days → p < weeks * days → before ≡ get_or sets p [] → row ≡ p % days * MOST_SYMBOLS → TestsOf test before were
    → (x : ℕ) → x < MOST_SYMBOLS → one_if (get_or were x false) ≤ get_or old (row + x) 0
tally_has test days weeks sets p before were row old tallies some lt same at flags x small =
    let week : p / days < 0 + weeks = omega (arith, div_below p days weeks some lt) in
    let place : p / days * days + p % days ≡ p = div-add-mod' p days in
    let has = count_has (λ i. test x (get_or sets (i * days + p % days) [])) 0 weeks (p / days) (omega arith) week in
    let here : one_if (test x (get_or sets (p / days * days + p % days) [])) ≡ one_if (get_or were x false) = ap (λ q. one_if (test x (get_or sets q []))) place ∙ ap (λ s. one_if (test x s)) (sym same) ∙ ap (λ b. one_if b) (sym (flags x small)) in
    let counted = tallies.each (p % days) x (mod_below p days some) small in
    let index : get_or old (row + x) 0 ≡ get_or old (p % days * MOST_SYMBOLS + x) 0 = ap (λ r. get_or old (r + x) 0) at in
    omega (arith, has, here, counted, index)

-- counters are small
pub tally_small : (test : ℕ → List ℕ → Bool) (days weeks : ℕ) (sets : List (List ℕ)) (p row : ℕ) (old : List ℕ)
    → Tallies test days weeks sets old → 0 < days → row ≡ p % days * MOST_SYMBOLS
    → (x : ℕ) → x < MOST_SYMBOLS → get_or old (row + x) 0 ≤ weeks
tally_small test days weeks sets p row old tallies some at x small =
    let counted = tallies.each (p % days) x (mod_below p days some) small in
    let index : get_or old (row + x) 0 ≡ get_or old (p % days * MOST_SYMBOLS + x) 0 = ap (λ r. get_or old (r + x) 0) at in
    omega (arith, counted, index, column_small (test x) days weeks sets (p % days))

-- counters that were recounted count the changed sets
pub tallies_moved : (test : ℕ → List ℕ → Bool) (days weeks : ℕ) (sets : List (List ℕ)) (p : ℕ) (before after : List ℕ) (were are : List Bool) (row : ℕ) (old new : List ℕ)
    → Tallies test days weeks sets old → 0 < days → p < weeks * days → p < length sets → before ≡ get_or sets p [] → row ≡ p % days * MOST_SYMBOLS
    → TestsOf test before were → TestsOf test after are → IsRecounted row were are old new
    → Tallies test days weeks (set sets p after) new
tallies_moved test days weeks sets p before after were are row old new tallies some lt within same at flags new_flags moved = record {
  long = moved.long ∙ tallies.long;
  each = λ k x less small.
      let counted = tallies.each k x less small in
      elim (cases_order k (p % days)) [
        | inl here ↦
            let index : k * MOST_SYMBOLS + x ≡ row + x = omega arith in
            let was : one_if (test x (get_or sets p [])) ≡ one_if (get_or were x false) = ap (λ s. one_if (test x s)) (sym same) ∙ ap (λ b. one_if b) (sym (flags x small)) in
            let is : one_if (test x after) ≡ one_if (get_or are x false) = ap (λ b. one_if b) (sym (new_flags x small)) in
            let own = column_own (test x) days weeks sets p after some lt within in
            let change = moved.within x small in
            let column : column_count (test x) days weeks sets k ≡ column_count (test x) days weeks sets (p % days) = ap (column_count (test x) days weeks sets) here in
            let new_column : column_count (test x) days weeks (set sets p after) k ≡ column_count (test x) days weeks (set sets p after) (p % days) = ap (column_count (test x) days weeks (set sets p after)) here in
            let old_at : get_or old (k * MOST_SYMBOLS + x) 0 ≡ get_or old (row + x) 0 = ap (λ i. get_or old i 0) index in
            let new_at : get_or new (k * MOST_SYMBOLS + x) 0 ≡ get_or new (row + x) 0 = ap (λ i. get_or new i 0) index in
            omega (arith, was, is, own, change, counted, column, new_column, old_at, new_at)
        | inr apart ↦ elim apart [
          | inl under ↦ moved.below (k * MOST_SYMBOLS + x) (omega arith) ∙ counted ∙ sym (column_other (test x) days weeks sets p k after less (omega arith))
          | inr over ↦ moved.above (k * MOST_SYMBOLS + x) (omega arith) ∙ counted ∙ sym (column_other (test x) days weeks sets p k after less (omega arith))
        ]
      ];
}

empty_at : (n i : ℕ) → get_or (replicate {A = List ℕ} n []) i [] ≡ []
empty_at zero i = refl
empty_at (suc n) zero = refl
empty_at (suc n) (suc i) = empty_at n i

zero_at : (n i : ℕ) → get_or (replicate {A = ℕ} n 0) i 0 ≡ 0
zero_at zero i = refl
zero_at (suc n) zero = refl
zero_at (suc n) (suc i) = zero_at n i

-- no set passes where all are empty
pub tallies_empty : (test : ℕ → List ℕ → Bool) (days weeks n : ℕ) → ((x : ℕ) → test x [] ≡ false) → Tallies test days weeks (replicate {A = List ℕ} n []) (replicate {A = ℕ} (days * MOST_SYMBOLS) 0)
tallies_empty test days weeks n none = record {
  long = length-replicate {A = ℕ} (days * MOST_SYMBOLS) 0;
  each = λ k x less small. zero_at (days * MOST_SYMBOLS) (k * MOST_SYMBOLS + x) ∙ sym (count_none (λ i. test x (get_or (replicate {A = List ℕ} n []) (i * days + k) [])) 0 weeks (λ i. ap (test x) (empty_at n (i * days + k)) ∙ none x));
}

-- one flag more
pub flag_set : (flags : List Bool) (x : ℕ) (b : Bool) (test : ℕ → Bool) → x < length flags → ((y : ℕ) → y < x → get_or flags y false ≡ test y) → b ≡ test x
    → (y : ℕ) → y < x + 1 → get_or (set flags x b) y false ≡ test y
flag_set flags x b test within below here y less =
    elim (cases_eq y x) [
      | inl same ↦ ap (λ i. get_or (set flags x b) i false) same ∙ get_or-set_same flags x b false within ∙ here ∙ ap test (sym same)
      | inr other ↦ get_or-set_other flags x y b false other ∙ below y (omega (arith, less, other))
    ]

-- what was written to a slice is written to its vector
pub written_back : (n : ℕ) (new old : List ℕ) → length new ≡ length old → n ≡ length old → take n (new ++ drop (length new) old) ≡ new
written_back n new old same long =
    let past : length old ≤ length new = omega arith in
    ap (λ rest. take n (new ++ rest)) (drop_all (length new) old past) ∙ ap (take n) (append-nil new) ∙ take_all n new (omega (arith, same, long))

pub tallies_read : (test : ℕ → List ℕ → Bool) (days weeks : ℕ) (sets : List (List ℕ)) (items read : List ℕ) → Tallies test days weeks sets items → read ≡ items → Tallies test days weeks sets read
tallies_read test days weeks sets items read tallies same = let P : List ℕ → Type 0 = λ l. Tallies test days weeks sets l in subst P (sym same) tallies

-- as many domains as sets
pub same_positions : (C : Counted) (S : Store) → HasShapeOf C S → length C.sets ≡ C.weeks * C.days → length S.sets ≡ S.weeks * S.days → length C.sets ≡ length S.sets
same_positions C S shape long full = long ∙ ap (λ w. w * C.days) shape.weeks ∙ ap (λ d. S.weeks * d) shape.days ∙ sym full

-- domains that differ at one position, once that has been taken over
pub narrowed_stands : (C : Counted) (S : Store) (p : ℕ) (s : List ℕ) → DiffersAtMostAt C S p → length C.sets ≡ C.weeks * C.days → length S.sets ≡ S.weeks * S.days → p < length S.sets → s ≡ domain_at S p → StandsFor (with_set C p s) S
narrowed_stands C S p s differs long full within same =
    let positions : length C.sets ≡ length S.sets = same_positions C S differs.shape long full in
    let here : p < length C.sets = omega arith in
    record {
      days = differs.shape.days;
      weeks = differs.shape.weeks;
      shifts = differs.shape.shifts;
      sets = ext_get_or [] (set C.sets p s) S.sets (length-set C.sets p s ∙ positions) (λ q less.
          elim (cases_eq q p) [
            | inl at ↦ ap (λ i. get_or (set C.sets p s) i []) at ∙ get_or-set_same C.sets p s [] here ∙ same ∙ ap (λ i. get_or S.sets i []) (sym at)
            | inr other ↦ get_or-set_other C.sets p q s [] other ∙ differs.others q other
          ]);
    }

-- all have been taken over
pub all_taken : (C : Counted) (S : Store) → HasShapeOf C S → length C.sets ≡ length S.sets → ((q : ℕ) → q < length S.sets → get_or C.sets q [] ≡ get_or S.sets q []) → StandsFor C S
all_taken C S shape long done = record {
  days = shape.days;
  weeks = shape.weeks;
  shifts = shape.shifts;
  sets = ext_get_or [] C.sets S.sets long (λ q less. done q (omega (arith, less, long)));
}

-- what a counter holds is no more than the weeks
pub tally_few : (test : ℕ → List ℕ → Bool) (days weeks : ℕ) (sets : List (List ℕ)) (items : List ℕ) (day x r : ℕ) → Tallies test days weeks sets items → 0 < day → day ≤ days → x < MOST_SYMBOLS → r ≡ get_or items ((day - 1) * MOST_SYMBOLS + x) r → r ≤ weeks
tally_few test days weeks sets items day x r tallies some le small read =
    let k = day - 1 in
    let less : day - 1 < days = omega (arith, some, le) in
    let within : (day - 1) * MOST_SYMBOLS + x < length items = omega (arith, less, small, tallies.long) in
    let at : r ≡ get_or items ((day - 1) * MOST_SYMBOLS + x) 0 = get_or_read items ((day - 1) * MOST_SYMBOLS + x) r within read 0 in
    omega (arith, at, tallies.each (day - 1) x less small, column_small (test x) days weeks sets (day - 1))

-- a set that has another symbol hasn't one alone
pub not_alone : (last x z : ℕ) (s : List ℕ) → z < last + 1 → z ≢ x → has_symbol s z ≡ true → is_alone last x s ≡ false
not_alone last x z s lt other there =
    let test : ℕ → Bool = λ z. (z == x) || not (has_symbol s z) in
    and_right (has_symbol s x) (list_all test (range_with_len 0 (last + 1))) (not_all test (last + 1) z lt (other_fails z x (has_symbol s z) other there))

-- nothing is counted where all sets are empty
pub tallied_empty : (days weeks shifts cells : ℕ) (sets : List (List ℕ)) (fixed possible : List ℕ) → 1 ≤ days → weeks ≤ MOST_WEEKS → cells ≤ MOST_CELLS → shifts ≤ MOST_SHIFTS → cells ≡ weeks * days
    → sets ≡ replicate {A = List ℕ} cells [] → fixed ≡ replicate {A = ℕ} (days * MOST_SYMBOLS) 0 → possible ≡ replicate {A = ℕ} (days * MOST_SYMBOLS) 0
    → IsTallied (record { days = days; weeks = weeks; shifts = shifts; sets = sets }) fixed possible
tallied_empty days weeks shifts cells sets fixed possible some few_weeks few_cells few_shifts all empty f p = record {
  some_days = some;
  few_weeks = few_weeks;
  few_cells = omega (arith, few_cells, all);
  few_shifts = few_shifts;
  long = ap length empty ∙ length-replicate {A = List ℕ} cells [] ∙ all;
  fixed_counted =
      let P : List (List ℕ) → Type 0 = λ s. Tallies (is_alone shifts) days weeks s fixed in
      subst P (sym empty) (tallies_read (is_alone shifts) _ _ _ _ _ (tallies_empty (is_alone shifts) days weeks cells (λ x. refl)) f);
  possible_counted =
      let P : List (List ℕ) → Type 0 = λ s. Tallies is_held days weeks s possible in
      subst P (sym empty) (tallies_read is_held _ _ _ _ _ (tallies_empty is_held days weeks cells (λ x. refl)) p);
}
