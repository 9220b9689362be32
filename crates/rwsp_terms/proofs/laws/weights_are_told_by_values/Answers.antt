use Rattle.rwsp_terms.proofs.SameLists.{same_weights}
use Rattle.rwsp_terms.proofs.laws.weights_are_told_by_values.Goals as goal

pub returns : goal.returns
returns c = same_weights
