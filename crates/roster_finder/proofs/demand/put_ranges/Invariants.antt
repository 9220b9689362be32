use Rattle.std.proofs.Common.{◌≡◌}
use Rattle.roster_finder.proofs.demand.put_ranges.Given as goal

abbrev pub invariant-loop-number : goal.invariant-loop-number
invariant-loop-number l = (l.ranges.rows ≡ l.initial.ranges.rows) × (l.ranges.columns ≡ l.initial.ranges.columns)
