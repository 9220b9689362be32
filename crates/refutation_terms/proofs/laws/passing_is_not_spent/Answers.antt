use Rattle.refutation_terms.proofs.Spent.{passing_not_spent}
use Rattle.refutation_terms.proofs.laws.passing_is_not_spent.Goals as goal

pub returns : goal.returns
returns c = passing_not_spent
