use Rattle.crew_size.proofs.Decided.{searches_agree}
use Rattle.crew_size.proofs.laws.searches_agree.Goals as goal

pub returns : goal.returns
returns c = searches_agree
