use Rattle.std.proofs.Common.{length}
use Rattle.rule_reducer.specs.Citing.{AreCited}
use Rattle.rule_reducer.proofs.Descents.{ReducesSoFar}
use Rattle.rule_reducer.proofs.reducing.descend_all.Given as goal

abbrev pub invariant-loop-log : goal.invariant-loop-log
invariant-loop-log l = record {
  so_far : ReducesSoFar l.problem l.fn.log l.log;
  cited : AreCited l.problem l.log l.cited.for_good l.cited.in_lists;
}

abbrev pub decreases-loop-log : goal.decreases-loop-log
decreases-loop-log l = length l.log.named
