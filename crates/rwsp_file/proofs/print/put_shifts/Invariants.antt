use Rattle.std.proofs.Common.{◌≡◌, ◌++◌, map, take}
use Rattle.std.specs.List.{flat_map}
use Rattle.rwsp_file.specs.Text.{file_line}
use Rattle.rwsp_file.specs.Spelling.{shift_fields}
use Rattle.rwsp_file.proofs.print.put_shifts.Given as goal

abbrev pub invariant-loop-place : goal.invariant-loop-place
invariant-loop-place l = l.out.items ≡ l.fn.out.items ++ flat_map file_line (map (shift_fields) (take l.place l.problem.shifts))
