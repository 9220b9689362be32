use Rattle.std.proofs.Common.{◌≡◌, ◌++◌}
use Rattle.std.specs.List.{flat_map, range_with_len}
use Rattle.plain_words.specs.Statements.{lines}
use Rattle.plain_words.specs.Sentences.{day_slips}
use Rattle.plain_words.proofs.slips.put_all_day_slips.Given as goal

abbrev pub invariant-loop-i : goal.invariant-loop-i
invariant-loop-i l = l.out.items ≡ l.fn.out.items ++ lines l.by (flat_map (day_slips l.by.problem.now l.is_sized) (range_with_len 1 l.i))
