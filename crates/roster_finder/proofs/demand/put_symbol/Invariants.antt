use Rattle.std.proofs.Common.{◌≡◌}
use Rattle.roster_finder.proofs.demand.put_symbol.Given as goal

abbrev pub invariant-loop-day : goal.invariant-loop-day
invariant-loop-day l = (l.ranges.rows ≡ l.initial.ranges.rows) × (l.ranges.columns ≡ l.initial.ranges.columns)
