use Rattle.std.proofs.Common.{◌≡◌, take}
use Rattle.refutation_terms.proofs.cells.GivenCells.copy.Given as goal

abbrev pub invariant-loop-cell : goal.invariant-loop-cell
invariant-loop-cell l = l.copies ≡ take l.cell-index l.self
