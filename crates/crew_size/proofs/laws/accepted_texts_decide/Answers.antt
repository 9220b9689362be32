use Rattle.crew_size.proofs.Decided.{accepted_decide}
use Rattle.crew_size.proofs.laws.accepted_texts_decide.Goals as goal

pub returns : goal.returns
returns c = accepted_decide
