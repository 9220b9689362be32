-- The start and the length of a shift, by its row.
use Rattle.std.proofs.Common.{◌≡◌, ℕ}
use Rattle.std.specs.Prelude.{Option, Some, None, option_map}
use Rattle.rwsp_terms.specs.declared.data.ShiftRow.{ShiftRow}
use Rattle.made_problems.specs.Times.{start_in, length_in}

pub start_is : (row : Option ShiftRow) (start : ℕ) → option_map (λ r. r.start) row ≡ Some start → start ≡ start_in row
start_is None start h = absurd (cc)
start_is (Some row) start h = cc

pub length_is : (row : Option ShiftRow) (length : ℕ) → option_map (λ r. r.length) row ≡ Some length → length ≡ length_in row
length_is None length h = absurd (cc)
length_is (Some row) length h = cc
