use Rattle.std.proofs.Common.{◌+◌, ◌-◌, ◌<◌}
use Rattle.ways_out.specs.Helping.{NoneFoundBelow}
use Rattle.ways_out.specs.Reached.{HasReached}
use Rattle.ways_out.specs.Verdicts.{AreMadeOf}
use Rattle.ways_out.proofs.nearest.double.Given as goal

abbrev pub invariant-doubling : goal.invariant-doubling
invariant-doubling g l = record {
  reached : HasReached l.asked.problem.now l.asked.effort l.change l.reached;
  order : l.reached.tried < l.below;
  fewer : NoneFoundBelow l.asked.problem.now l.asked.effort l.change (l.reached.tried + 1);
  made : AreMadeOf l.asked.problem.now l.asked.effort l.change l.made.items;
}

abbrev pub decreases-doubling : goal.decreases-doubling
decreases-doubling g l = l.below - l.reached.tried
