-- Counters, one for each day of a week and each symbol that a problem may have, and what they count.
use Rattle.std.specs.Prelude.{◌≡◌, ℕ, ◌+◌, ◌*◌, ◌<◌, ◌≤◌, List, [], length, Bool, false, ◌&&◌, ◌||◌, ◌==◌, not, cond, count_by, slice_index, slice_index_or}
use Rattle.std.specs.List.{range_with_len, list_all}
use Rattle.rwsp_terms.specs.declared.limits.TheConstants.{MOST_WEEKS, MOST_CELLS, MOST_SHIFTS, MOST_SYMBOLS}
use Rattle.domain_store.specs.Sets.{has_symbol}
use Rattle.propagators.specs.Counted.{Counted}

-- 1 for a test that holds, else 0
abbrev pub one_if : Bool → ℕ
one_if b = cond b 1 0

-- the set has the symbol
abbrev pub is_held : ℕ → List ℕ → Bool
is_held x set = has_symbol set x

-- the set has the symbol, and no other up to the last
abbrev pub is_alone : ℕ → ℕ → List ℕ → Bool
is_alone last x set =
    has_symbol set x && list_all (λ z. (z == x) || not (has_symbol set z)) (range_with_len 0 (last + 1))

-- how many sets of a day, counted from 0, pass the test
abbrev pub column_count : (List ℕ → Bool) → ℕ → ℕ → List (List ℕ) → ℕ → ℕ
column_count test days weeks sets k =
    count_by (λ i. test (slice_index_or sets (i * days + k) [])) (range_with_len 0 weeks)

-- the counters hold, for each day and each symbol that a problem may have, how many sets of the day pass the symbol's
-- test
pub record Tallies (test : ℕ → List ℕ → Bool) (days weeks : ℕ) (sets : List (List ℕ)) (counters : List ℕ) : Type 0 where
  pub long : length counters ≡ days * MOST_SYMBOLS
  pub each : (k x : ℕ) → k < days → x < MOST_SYMBOLS
      → slice_index counters (k * MOST_SYMBOLS + x) ≡ column_count (test x) days weeks sets k

-- the flags tell which symbols that a problem may have pass their tests at the set
abbrev pub TestsOf : (ℕ → List ℕ → Bool) → List ℕ → List Bool → Type 0
TestsOf test set flags = (x : ℕ) → x < MOST_SYMBOLS → slice_index_or flags x false ≡ test x set

-- the counters of a day count the new flags in place of the old ones, and the others stay
pub record IsRecounted (row : ℕ) (were are : List Bool) (old new : List ℕ) : Type 0 where
  pub within : (x : ℕ) → x < MOST_SYMBOLS
      → slice_index new (row + x) + one_if (slice_index_or were x false)
      ≡ slice_index old (row + x) + one_if (slice_index_or are x false)
  pub below : (k : ℕ) → k < row → slice_index new k ≡ slice_index old k
  pub above : (k : ℕ) → row + MOST_SYMBOLS ≤ k → slice_index new k ≡ slice_index old k
  pub long : length new ≡ length old

-- what counts keep of their fields
pub record IsTallied (C : Counted) (fixed possible : List ℕ) : Type 0 where
  pub some_days : 1 ≤ C.days
  pub few_weeks : C.weeks ≤ MOST_WEEKS
  pub few_cells : C.weeks * C.days ≤ MOST_CELLS
  pub few_shifts : C.shifts ≤ MOST_SHIFTS
  pub long : length C.sets ≡ C.weeks * C.days
  pub fixed_counted : Tallies (is_alone C.shifts) C.days C.weeks C.sets fixed
  pub possible_counted : Tallies is_held C.days C.weeks C.sets possible
