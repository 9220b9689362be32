use Rattle.std.proofs.Common.{◌≡◌, ◌++◌, map, take}
use Rattle.std.specs.List.{join_with_byte}
use Rattle.rwsp_file.specs.Text.{demand_text, row_of_demand}
use Rattle.rwsp_file.proofs.print.put_demand_row.Given as goal

abbrev pub invariant-loop-day : goal.invariant-loop-day
invariant-loop-day l = l.out.items ≡ l.fn.out.items ++ join_with_byte 32 (map demand_text (take l.day (row_of_demand l.problem l.place)))
