use Rattle.refutation_terms.proofs.InWords.{over_as_said}
use Rattle.refutation_terms.proofs.laws.over_is_as_said.Goals as goal

pub returns : goal.returns
returns c = over_as_said
