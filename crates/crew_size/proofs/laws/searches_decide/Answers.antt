use Rattle.crew_size.proofs.Decided.{searches_decide}
use Rattle.crew_size.proofs.laws.searches_decide.Goals as goal

pub returns : goal.returns
returns c = searches_decide
