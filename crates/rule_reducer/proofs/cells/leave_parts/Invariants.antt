use Rattle.std.proofs.Common.{◌≡◌, ◌-◌}
use Rattle.rule_reducer.proofs.Leaving.{LeftSoFar}
use Rattle.rule_reducer.proofs.cells.leave_parts.Given as goal

abbrev pub invariant-loop-from : goal.invariant-loop-from
invariant-loop-from l = record {
  judge : l.judge ≡ l.fn.judge;
  left : LeftSoFar l.problem l.log l.size l.fn.opening l.opening l.from;
}

abbrev pub decreases-loop-from : goal.decreases-loop-from
decreases-loop-from l = l.end - l.from
