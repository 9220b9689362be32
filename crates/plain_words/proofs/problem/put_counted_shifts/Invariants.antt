use Rattle.std.proofs.Common.{◌≡◌, ◌++◌}
use Rattle.std.specs.List.{flat_map, range_with_len}
use Rattle.plain_words.specs.Statements.{lines}
use Rattle.plain_words.specs.Sentences.{counted_at}
use Rattle.plain_words.proofs.problem.put_counted_shifts.Given as goal

abbrev pub invariant-loop-place : goal.invariant-loop-place
invariant-loop-place l = l.out.items ≡ l.fn.out.items ++ lines l.by (flat_map (counted_at l.by.problem.now) (range_with_len 1 l.place))
