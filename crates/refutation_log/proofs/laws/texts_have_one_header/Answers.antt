use Rattle.refutation_log.proofs.OneHeader.{one_header}
use Rattle.refutation_log.proofs.laws.texts_have_one_header.Goals as goal

pub returns : goal.returns
returns c = one_header
