use Rattle.refutation_terms.proofs.Scarcest.{one_scarcest}
use Rattle.refutation_terms.proofs.laws.scarcest_turn_is_one.Goals as goal

pub returns : goal.returns
returns c = one_scarcest
