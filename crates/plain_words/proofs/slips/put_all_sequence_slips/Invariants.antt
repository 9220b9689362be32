use Rattle.std.proofs.Common.{◌≡◌, ◌++◌}
use Rattle.std.specs.List.{flat_map, range_with_len}
use Rattle.plain_words.specs.Statements.{lines}
use Rattle.plain_words.specs.Sentences.{sequence_slips}
use Rattle.plain_words.proofs.slips.put_all_sequence_slips.Given as goal

abbrev pub invariant-loop-place : goal.invariant-loop-place
invariant-loop-place l = l.out.items ≡ l.fn.out.items ++ lines l.by (flat_map (sequence_slips l.by.problem.now) (range_with_len 0 l.place))
