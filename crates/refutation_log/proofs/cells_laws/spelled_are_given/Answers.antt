use Rattle.refutation_log.proofs.CellsSpelled.{spelled_are_given}
use Rattle.refutation_log.proofs.cells_laws.spelled_are_given.Goals as goal

pub returns : goal.returns
returns c = spelled_are_given
