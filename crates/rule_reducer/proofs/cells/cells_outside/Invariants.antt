use Rattle.std.proofs.Common.{◌≡◌, take}
use Rattle.rule_reducer.specs.Leaving.{cells_outside}
use Rattle.rule_reducer.proofs.cells.cells_outside.Given as goal

abbrev pub invariant-loop-cell : goal.invariant-loop-cell
invariant-loop-cell l = l.rest ≡ cells_outside l.fn.part.from l.fn.part.to (take l.cell-index l.given)
