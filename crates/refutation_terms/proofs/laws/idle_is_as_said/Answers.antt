use Rattle.refutation_terms.proofs.InWords.{idle_as_said}
use Rattle.refutation_terms.proofs.laws.idle_is_as_said.Goals as goal

pub returns : goal.returns
returns c = idle_as_said
