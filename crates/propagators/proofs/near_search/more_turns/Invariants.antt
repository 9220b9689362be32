use Rattle.std.proofs.Common.{◌≤◌}
use Rattle.propagators.proofs.near_search.more_turns.Given as goal

abbrev pub invariant-loop : goal.invariant-loop
invariant-loop l = (1 ≤ l.more) × (l.more ≤ l.effort.most_turns)
