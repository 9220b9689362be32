use Rattle.std.proofs.Common.{◌≤◌}
use Rattle.roster_finder.proofs.rewriting.has_weekday.Given as goal

abbrev pub invariant-loop : goal.invariant-loop
invariant-loop l = l.left ≤ l.after
