use Rattle.std.proofs.Common.{◌≡◌, map}
use Rattle.std.specs.List.{range_with_len}
use Rattle.made_problems.specs.Generated.{count_on, range}
use Rattle.made_problems.proofs.counts.demand_row.Given as goal

abbrev pub invariant-loop-day : goal.invariant-loop-day
invariant-loop-day l =
    l.ranges.items ≡ map (λ j. range (count_on l.weeks l.cells l.x.number j) (count_on l.weeks l.cells l.x.number j)) (range_with_len 1 l.day)
