use Rattle.std.proofs.Common.{◌≡◌, ◌-◌, [], length}
use Rattle.rwsp_file.specs.Reading.{many, shift_at}
use Rattle.rwsp_file.proofs.row.read_shifts.Given as goal

abbrev pub invariant-loop-shift : goal.invariant-loop-shift
invariant-loop-shift l = (many shift_at (l.count - l.shift) l.shifts l.cursor ≡ many shift_at l.count [] l.fn.cursor) × (length l.shifts ≡ l.shift)
