use Rattle.std.proofs.Common.{◌≤◌}
use Rattle.propagators.proofs.near_small.few_turns.Given as goal

abbrev pub invariant-loop : goal.invariant-loop
invariant-loop l = 1 ≤ l.fewer
