use Rattle.refutation_terms.proofs.Sound.{passing_leaves_none}
use Rattle.refutation_terms.proofs.laws.passing_leaves_no_roster.Goals as goal

pub returns : goal.returns
returns c = passing_leaves_none
