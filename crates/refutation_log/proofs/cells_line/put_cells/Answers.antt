use Rattle.std.proofs.Common.{ap, ◌∙◌, ◌++◌, arith}
use Rattle.refutation_log.proofs.PrintedTexts.{pieces_all, pieces_put, cell_piece, spaced_cells}
use Rattle.refutation_log.proofs.cells_line.put_cells.Goals as goal

pub returns : goal.returns
returns c =
    pieces_all (cell_piece c.args.problem.now) _ _ c.args.given.now _ (omega arith) c.loop-cell.invariant ∙ ap (λ t. c.args.out.now.items ++ t) (spaced_cells c.args.problem.now c.args.given.now)

pub put_cell-requires : goal.put_cell-requires
put_cell-requires c = c.requires _ _ c.loop-cell-test.true

pub loop-cell-preserved : goal.loop-cell-preserved
loop-cell-preserved c =
    pieces_put (cell_piece c.args.problem.now) _ _ _ c.args.given.now _ _ c.loop-cell-test.true c.loop-cell.invariant c.in_ok-put_cell.ensures
