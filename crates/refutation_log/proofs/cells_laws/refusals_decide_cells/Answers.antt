use Rattle.refutation_log.proofs.CellsSpelled.{refusals_decide}
use Rattle.refutation_log.proofs.cells_laws.refusals_decide_cells.Goals as goal

pub returns : goal.returns
returns c = refusals_decide
