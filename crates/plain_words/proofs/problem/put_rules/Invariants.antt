use Rattle.std.proofs.Common.{◌≡◌, ◌++◌, map}
use Rattle.std.specs.List.{range_with_len}
use Rattle.plain_words.specs.Statements.{Named, lines}
use Rattle.plain_words.proofs.problem.put_rules.Given as goal

abbrev pub invariant-loop-place : goal.invariant-loop-place
invariant-loop-place l = l.out.items ≡ l.fn.out.items ++ lines l.by (map Named (range_with_len 1 l.place))
