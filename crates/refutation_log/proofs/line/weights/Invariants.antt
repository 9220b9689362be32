use Rattle.std.proofs.Common.{length}
use Rattle.refutation_log.proofs.WeightsRead.{SoFar}
use Rattle.refutation_log.proofs.line.weights.Given as goal

abbrev pub invariant-loop-fields : goal.invariant-loop-fields
invariant-loop-fields l = SoFar l.problem l.fn.fields l.fields l.state

abbrev pub decreases-loop-fields : goal.decreases-loop-fields
decreases-loop-fields l = length l.fields
