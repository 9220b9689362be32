use Rattle.std.proofs.Common.{◌≤◌}
use Rattle.roster_finder.proofs.rewriting.days_with.Given as goal

abbrev pub invariant-loop-after : goal.invariant-loop-after
invariant-loop-after l = l.count ≤ l.after
