use Rattle.std.proofs.Common.{◌≡◌, ◌++◌, take}
use Rattle.std.specs.List.{flat_map}
use Rattle.refutation_log.proofs.PrintedTexts.{cell_piece}
use Rattle.refutation_log.proofs.cells_line.put_cells.Given as goal

abbrev pub invariant-loop-cell : goal.invariant-loop-cell
invariant-loop-cell l = l.out.items ≡ l.fn.out.items ++ flat_map (cell_piece l.problem) (take l.cell-index l.given)
