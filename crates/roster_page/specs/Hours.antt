-- The hours of a roster, in minutes.
use Rattle.std.specs.Prelude.{ℕ, zero, suc, List, slice_get}
use Rattle.std.specs.List.{sum_by}
use Rattle.rwsp_terms.specs.Instance.{Instance}
use Rattle.rwsp_terms.specs.declared.data.Symbol.{Symbol}
use Rattle.made_problems.specs.Times.{length_in}

-- the minutes of a symbol by its number; the day off has none
abbrev pub minutes_numbered : Instance → ℕ → ℕ
minutes_numbered P zero = 0
minutes_numbered P (suc k) = length_in (slice_get P.shifts k)

abbrev pub minutes_of : Instance → Symbol → ℕ
minutes_of P x = minutes_numbered P x.number

-- the minutes of all symbols of a row
unfoldable pub minutes_in : Instance → List Symbol → ℕ
minutes_in P row = sum_by (minutes_of P) row
