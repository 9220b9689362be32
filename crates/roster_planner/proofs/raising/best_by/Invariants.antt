use Rattle.std.proofs.Common.{◌≡◌, ◌+◌, ◌-◌, ◌≤◌}
use Rattle.std.specs.Option.{IfSome}
use Rattle.refutation_log.specs.Bests.{IsMeeting, goal_above}
use Rattle.roster_planner.proofs.raising.best_by.Given as goal

abbrev pub invariant-loop-kept : goal.invariant-loop-kept
invariant-loop-kept l = record {
  kept : IfSome l.kept (IsMeeting l.automaton.problem);
  above : l.rising ≡ goal_above l.kept;
  within : l.rising ≤ l.automaton.problem.weeks + 1;
}

abbrev pub decreases-loop-kept : goal.decreases-loop-kept
decreases-loop-kept l = (l.automaton.problem.weeks + 2) - l.rising
