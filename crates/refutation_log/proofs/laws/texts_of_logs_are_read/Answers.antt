use Rattle.refutation_log.proofs.OneCause.{texts_read}
use Rattle.refutation_log.proofs.laws.texts_of_logs_are_read.Goals as goal

pub returns : goal.returns
returns c = texts_read
