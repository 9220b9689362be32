use Rattle.std.proofs.Common.{◌≡◌, ◌++◌}
use Rattle.std.specs.List.{flat_map, range_with_len}
use Rattle.plain_words.specs.Statements.{told_lines}
use Rattle.plain_words.specs.Told.{way_in}
use Rattle.plain_words.proofs.ways.put_outcomes_told.Given as goal

abbrev pub invariant-loop-place : goal.invariant-loop-place
invariant-loop-place l = l.out.items ≡ l.fn.out.items ++ told_lines l.problem (flat_map (way_in l.problem l.outcomes) (range_with_len 0 l.place))
