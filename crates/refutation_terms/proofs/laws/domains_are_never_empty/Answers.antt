use Rattle.refutation_terms.proofs.NeverEmpty.{domains_never_empty}
use Rattle.refutation_terms.proofs.laws.domains_are_never_empty.Goals as goal

pub returns : goal.returns
returns c = domains_never_empty
