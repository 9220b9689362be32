-- Small problems with one shift D, and logs for them: one that is spent, some that are sharp and some that aren't.
use Rattle.std.specs.Prelude.{ℕ, List, [], ◌∷◌, false, None, ℤ, codes}
use Rattle.rwsp_terms.specs.declared.data.Symbol.{Symbol}
use Rattle.rwsp_terms.specs.declared.data.Bounds.{Bounds}
use Rattle.rwsp_terms.specs.declared.data.Weight.{Weight}
use Rattle.rwsp_terms.specs.Instance.{Instance}
use Rattle.refutation_terms.specs.declared.lines.Line.{Line}
use Rattle.refutation_terms.specs.declared.lines.Line.TheVariants.{Split, Unfinished, Closing}
use Rattle.refutation_terms.specs.declared.lines.Leaf.TheVariants.{Window, Day, Words}
use Rattle.refutation_terms.specs.declared.lines.WordClaim.TheVariants.{Dead}
use Rattle.refutation_terms.specs.declared.lines.Opening.{Opening}
use Rattle.refutation_terms.specs.declared.lines.Opening.TheVariants.{Full, Turned}
use Rattle.refutation_terms.specs.Log.{Log}

abbrev pub from_to : ℕ → ℕ → Bounds
from_to a b = record { least = a; greatest = b }

-- days, weeks, the demand of D day by day, and the bounds of all blocks, of D as of days off.
-- Rules 1 and 2 bound the blocks of D, 3 and 4 the days off, 5 and 6 the work; the days follow from 7 on
abbrev pub one_shift : ℕ → ℕ → List Bounds → Bounds → Instance
one_shift days weeks demand block = record {
  days = days;
  weeks = weeks;
  demand = demand ∷ [];
  shifts = record { name = codes "D"; start = 360; length = 480; bounds = block } ∷ [];
  off = block;
  work = block;
  sequences = [];
}

-- the rules on blocks
abbrev pub short_rules : List ℕ
short_rules = 1 ∷ 2 ∷ 3 ∷ 4 ∷ 5 ∷ 6 ∷ []

-- single D with single days off between them
abbrev pub singles : ℕ → ℕ → List Bounds → Instance
singles days weeks demand = one_shift days weeks demand (from_to 1 1)

-- the day off, and the shift D
abbrev pub off : Symbol
off = record { number = 0 }

abbrev pub shift_D : Symbol
shift_D = record { number = 1 }

-- a turn to D on day 1
abbrev pub turn_to_D : Opening
turn_to_D = Turned (record { day = 1; x = shift_D })

-- a log that names these rules
abbrev pub log_of : List ℕ → Opening → List Line → Log
log_of named o lines = record { named = named; opening = o; goal = None; counts = false; lines = lines }

-- three D in six cells, in blocks of two
abbrev pub three_of_six : Instance
three_of_six = one_shift 1 6 (from_to 3 3 ∷ []) (from_to 2 2)

-- behind a turn no word of seven days is clean
abbrev pub blocks_dead : Line
blocks_dead = Closing (Words 0 (1 ∷ 2 ∷ 3 ∷ 4 ∷ []) (Dead 7))

abbrev pub turn_log : Log
turn_log = log_of (1 ∷ 2 ∷ 3 ∷ 4 ∷ 7 ∷ []) turn_to_D (blocks_dead ∷ [])

-- a split without a turn, whose sides aren't worked out
abbrev pub open_log : Log
open_log = log_of [] Full (Split 0 shift_D ∷ Unfinished ∷ Unfinished ∷ [])

-- three cells: no word goes round that has D and days off by turns, since three is odd
abbrev pub odd_cycle : Bounds → Instance
odd_cycle demand = singles 1 3 (demand ∷ [])

abbrev pub odd_dead : Line
odd_dead = Closing (Words 0 (1 ∷ 3 ∷ []) (Dead 4))

-- any number of D, and a split of the first cell, with both sides dead
abbrev pub odd_log : Log
odd_log = log_of (1 ∷ 3 ∷ []) Full (Split 0 shift_D ∷ odd_dead ∷ odd_dead ∷ [])

-- a split where two turns are dead already
abbrev pub late_dead_log : Log
late_dead_log = log_of (1 ∷ 3 ∷ 7 ∷ []) turn_to_D (Split 1 shift_D ∷ odd_dead ∷ odd_dead ∷ [])

-- two D on day 1 of the only week
abbrev pub two_on_day_one : Instance
two_on_day_one = singles 3 1 (from_to 2 2 ∷ from_to 0 0 ∷ from_to 1 1 ∷ [])

-- a split where day 1 has too few D already
abbrev pub late_day_log : Log
late_day_log =
    log_of (7 ∷ []) turn_to_D (Split 1 shift_D ∷ Closing (Day 1 shift_D false) ∷ Closing (Day 1 shift_D false) ∷ [])

-- D on both days of the only week
abbrev pub two_in_a_row : Instance
two_in_a_row = singles 2 1 (from_to 1 1 ∷ from_to 1 1 ∷ [])

-- a split at the top where D weighing 1 on both days is too light already
abbrev pub late_bound_log : Log
late_bound_log = log_of (1 ∷ 7 ∷ 8 ∷ []) turn_to_D (Split 1 shift_D ∷ Closing (Window 1 0 2) ∷ Closing (Day 2 shift_D false) ∷ [])

-- D weighs `value` on each of two days
abbrev pub on_both_days : ℤ → List Weight
on_both_days value =
    record { day = 1; symbol = shift_D; value = value } ∷ record { day = 2; symbol = shift_D; value = value } ∷ []

-- two cells in which no D may be
abbrev pub none_wanted : Instance
none_wanted = singles 1 2 (from_to 0 0 ∷ [])

-- a split on the day off, which the first cell may hold, where it can't hold D
abbrev pub free_split_log : Log
free_split_log = log_of [] Full (Split 0 off ∷ Unfinished ∷ Unfinished ∷ [])
