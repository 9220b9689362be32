use Rattle.std.proofs.Common.{◌≡◌, ap, subst, Some, []}
use Rattle.refutation_terms.specs.Log.{Log as LogValue}
use Rattle.refutation_terms.specs.Tree.{after_trees}
use Rattle.refutation_terms.proofs.Trees.{whole_is_tree}
use Rattle.refutation_log.proofs.log.Log.lines.Goals as goal

pub returns-clause-tree : goal.returns-clause-tree
returns-clause-tree c =
    whole_is_tree c.args.self.now.lines
    (subst (λ ls. after_trees 1 ls ≡ Some []) (ap (λ (g : LogValue). g.lines) c.self.view_is) c.self.invariant.0)
