-- The law is proved in Volume.antt.
use Rattle.roster_search.proofs.Volume.{few_leaves}
use Rattle.roster_search.proofs.laws.trees_have_few_leaves.Goals as goal

pub returns : goal.returns
returns c = few_leaves
