use Rattle.std.proofs.Common.{◌≡◌, ◌++◌}
use Rattle.std.specs.List.{flat_map, range_with_len}
use Rattle.made_problems.specs.Rested.{of_first, too_close}
use Rattle.made_problems.proofs.rested.with_close.Given as goal

abbrev pub invariant-loop-first : goal.invariant-loop-first
invariant-loop-first l =
    l.sequences.items ≡ l.known ++ flat_map (of_first l.problem (too_close l.problem l.days l.minutes)) (range_with_len 0 l.first)
