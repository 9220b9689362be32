use Rattle.refutation_log.proofs.Adding.{on_ok}
use Rattle.refutation_log.proofs.Behind.{number_behind}
use Rattle.refutation_log.proofs.line.put_behind.Goals as goal

pub returns-clause-value : goal.returns-clause-value
returns-clause-value c = on_ok c.put.result _ _ (number_behind _ _ c.args.n c.requires.ascends c.requires.last c.put.ensures.ascends) c.put.ensures.holds
