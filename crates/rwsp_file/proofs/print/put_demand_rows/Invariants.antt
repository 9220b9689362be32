use Rattle.std.proofs.Common.{◌≡◌, ◌++◌, map, take}
use Rattle.std.specs.List.{flat_map}
use Rattle.rwsp_file.specs.Spelling.FileField.{DemandField}
use Rattle.rwsp_file.specs.Text.{file_line}
use Rattle.rwsp_file.proofs.print.put_demand_rows.Given as goal

abbrev pub invariant-loop-place : goal.invariant-loop-place
invariant-loop-place l = l.out.items ≡ l.fn.out.items ++ flat_map file_line (map (map DemandField) (take l.place l.problem.demand))
