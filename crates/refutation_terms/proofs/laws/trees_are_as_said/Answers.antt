use Rattle.refutation_terms.proofs.AsSaid.{trees_as_said, walks_read_trees}
use Rattle.refutation_terms.proofs.laws.trees_are_as_said.Goals as goal

pub returns : goal.returns
returns c = record { trees = trees_as_said; walks = walks_read_trees }
