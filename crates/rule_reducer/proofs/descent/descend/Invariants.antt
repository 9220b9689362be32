use Rattle.rule_reducer.specs.Citing.{AreCited}
use Rattle.rule_reducer.proofs.Descents.{DescentSoFar}
use Rattle.rule_reducer.proofs.descent.descend.Given as goal

abbrev pub invariant-loop-done : goal.invariant-loop-done
invariant-loop-done l = record {
  so_far : DescentSoFar l.problem l.fn.log l.log l.done;
  cited : AreCited l.problem l.log l.cited.for_good l.cited.in_lists;
}
