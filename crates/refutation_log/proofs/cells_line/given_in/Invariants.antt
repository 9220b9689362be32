use Rattle.std.proofs.Common.{length}
use Rattle.refutation_log.proofs.CellsRead.{CellsSoFar}
use Rattle.refutation_log.proofs.cells_line.given_in.Given as goal

abbrev pub invariant-loop-fields : goal.invariant-loop-fields
invariant-loop-fields l = CellsSoFar l.problem l.fn.fields l.fields l.given l.is_known l.next

abbrev pub decreases-loop-fields : goal.decreases-loop-fields
decreases-loop-fields l = length l.fields
