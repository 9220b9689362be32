-- The position of each employee on each day.
use Rattle.std.specs.Prelude.{ℕ, ◌+◌, ◌-◌, ◌*◌, ◌%◌, ◌≤◌, List, slice_index_or}
use Rattle.std.specs.List.{range_with_len}
use Rattle.rwsp_terms.specs.Instance.{Instance, cells, off_symbol}
use Rattle.rwsp_terms.specs.declared.data.Symbol.{Symbol}

-- the employees of an instance, from 1 on: one for each week
abbrev pub IsEmployee : Instance → ℕ → Type 0
IsEmployee P e = (1 ≤ e) × (e ≤ P.weeks)

abbrev pub employees : Instance → List ℕ
employees P = range_with_len 1 P.weeks

-- the position of an employee on a day, where days count from 0: each starts in the week of his number, and all move
-- round the cycle
abbrev pub position_on : Instance → ℕ → ℕ → ℕ
position_on P e t = ((e - 1) * P.days + t) % cells P

-- the symbol of an employee on a day
abbrev pub symbol_on : Instance → List Symbol → ℕ → ℕ → Symbol
symbol_on P s e t = slice_index_or s (position_on P e t) off_symbol
