use Rattle.refutation_log.proofs.CellsSpelled.{one_list}
use Rattle.refutation_log.proofs.cells_laws.text_gives_one_list.Goals as goal

pub returns : goal.returns
returns c = one_list
