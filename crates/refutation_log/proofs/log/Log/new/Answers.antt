use Rattle.std.proofs.Common.{◌≡◌, subst, Some, []}
use Rattle.refutation_terms.specs.Tree.{after_trees}
use Rattle.refutation_terms.proofs.Trees.{tree_is_whole}
use Rattle.refutation_log.proofs.log.Log.new.Goals as goal

pub invariant_of-result : goal.invariant_of-result
invariant_of-result c = (subst (λ ls. after_trees 1 ls ≡ Some []) c.requires.tree.1 (tree_is_whole c.requires.tree.0), c.requires.few)
