use Rattle.std.proofs.Common.{◌≡◌, ◌++◌}
use Rattle.std.specs.List.{flat_map, range_with_len}
use Rattle.plain_words.specs.Statements.{told_lines}
use Rattle.plain_words.specs.LogTold.{counted_at}
use Rattle.plain_words.proofs.log_told.put_counts_told.Given as goal

abbrev pub invariant-loop-number : goal.invariant-loop-number
invariant-loop-number l = l.out.items ≡ l.fn.out.items ++ told_lines l.problem (flat_map (counted_at l.problem l.lines) (range_with_len 0 l.number))
