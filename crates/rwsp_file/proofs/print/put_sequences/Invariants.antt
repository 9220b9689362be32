use Rattle.std.proofs.Common.{◌≡◌, ◌++◌, map, take}
use Rattle.std.specs.List.{flat_map}
use Rattle.rwsp_file.specs.Text.{file_line}
use Rattle.rwsp_file.specs.Spelling.{sequence_fields}
use Rattle.rwsp_file.proofs.print.put_sequences.Given as goal

abbrev pub invariant-loop-i : goal.invariant-loop-i
invariant-loop-i l = l.out.items ≡ l.fn.out.items ++ flat_map file_line (map (sequence_fields l.problem) (take l.i l.sequences))
