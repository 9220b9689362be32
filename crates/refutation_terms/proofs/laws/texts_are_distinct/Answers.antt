use Rattle.refutation_terms.proofs.Fronts.{texts_distinct}
use Rattle.refutation_terms.proofs.laws.texts_are_distinct.Goals as goal

pub returns : goal.returns
returns c = texts_distinct
