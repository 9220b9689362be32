use Rattle.std.proofs.Common.{◌-◌, ◌≤◌}
use Rattle.ways_out.specs.Loosened.{loosened}
use Rattle.ways_out.specs.Helping.{HasNone}
use Rattle.ways_out.proofs.numbers.numbers_of.Given as goal

abbrev pub invariant-loop-shut : goal.invariant-loop-shut
invariant-loop-shut g l = record {
  few : l.shut ≤ l.most;
  none : HasNone (loosened l.asked.problem.now l.change l.shut);
}

abbrev pub decreases-loop-shut : goal.decreases-loop-shut
decreases-loop-shut g l = l.most - l.shut
