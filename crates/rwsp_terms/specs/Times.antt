-- When shifts start, and how long they are.
use Rattle.std.specs.Prelude.{ℕ, ◌-◌, ◌*◌, slice_get, Option, Some, None}
use Rattle.rwsp_terms.specs.Instance.{Instance}
use Rattle.rwsp_terms.specs.declared.data.Symbol.{Symbol}
use Rattle.rwsp_terms.specs.declared.data.ShiftRow.{ShiftRow}

-- the minutes of a day
abbrev pub day_minutes : ℕ
day_minutes = 24 * 60

-- when a shift starts, in minutes after midnight, and how many minutes it has
abbrev pub start_in : Option ShiftRow → ℕ
start_in None = 0
start_in (Some row) = row.start

abbrev pub length_in : Option ShiftRow → ℕ
length_in None = 0
length_in (Some row) = row.length

abbrev pub start_of : Instance → Symbol → ℕ
start_of P x = start_in (slice_get P.shifts (x.number - 1))

abbrev pub length_of : Instance → Symbol → ℕ
length_of P x = length_in (slice_get P.shifts (x.number - 1))
