use Rattle.std.proofs.Common.{◌-◌, ◌<◌, ◌≤◌}
use Rattle.ways_out.specs.Loosened.{loosened, IsStep}
use Rattle.ways_out.specs.Helping.{HasRoster}
use Rattle.ways_out.specs.Reached.{HasReached}
use Rattle.ways_out.proofs.nearest.narrow.Given as goal

abbrev pub invariant-loop-reached : goal.invariant-loop-reached
invariant-loop-reached g l = record {
  reached : HasReached l.asked.problem.now l.asked.effort l.change l.reached;
  order : l.reached.tried < l.nearest;
  within : l.nearest ≤ l.fn.start.end;
  step : IsStep l.asked.problem.now l.change l.nearest;
  roster : HasRoster (loosened l.asked.problem.now l.change l.nearest);
}

abbrev pub decreases-loop-reached : goal.decreases-loop-reached
decreases-loop-reached g l = l.nearest - l.reached.tried
