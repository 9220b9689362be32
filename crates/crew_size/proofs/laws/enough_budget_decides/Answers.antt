use Rattle.crew_size.proofs.Decided.{enough_budget}
use Rattle.crew_size.proofs.laws.enough_budget_decides.Goals as goal

pub returns : goal.returns
returns c = enough_budget
