use Rattle.refutation_checker.proofs.Lists.{unnamed_by}
use Rattle.refutation_checker.proofs.plain_causes.unnamed_rule.Goals as goal

pub unnamed_in_leaf-requires : goal.unnamed_in_leaf-requires
unnamed_in_leaf-requires c = (c.requires.0, c.requires.1, rw c.in-Closing.is at c.requires.2)

pub returns-in-Closing : goal.returns-in-Closing
returns-in-Closing c =
    unnamed_by c.args.problem.now c.args.named.now c.args.line.now c.unnamed_in_leaf.result (rw c.in-Closing.is c.unnamed_in_leaf.ensures)
