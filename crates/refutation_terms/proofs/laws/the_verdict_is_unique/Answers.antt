use Rattle.refutation_terms.proofs.Unique.{verdict_unique}
use Rattle.refutation_terms.proofs.laws.the_verdict_is_unique.Goals as goal

pub returns : goal.returns
returns c = verdict_unique
