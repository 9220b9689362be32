use Rattle.refutation_log.proofs.TakenCells.{TakesOn}
use Rattle.refutation_log.proofs.cells_text.cells_given.Given as goal

abbrev pub invariant-loop-p : goal.invariant-loop-p
invariant-loop-p l = TakesOn l.said l.p l.given
