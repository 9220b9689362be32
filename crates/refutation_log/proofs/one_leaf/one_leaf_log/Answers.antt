use Rattle.std.proofs.Common.{◌∙◌}
use Rattle.refutation_log.proofs.OneLine.{one_tree, only_cited, log_passes}
use Rattle.refutation_log.proofs.one_leaf.one_leaf_log.Goals as goal

pub new-requires-clause-tree : goal.new-requires-clause-tree
new-requires-clause-tree c = one_tree c.args.leaf _ c.in_ok-lines.ensures

pub returns-clause-cited : goal.returns-clause-cited
returns-clause-cited c =
    let g = c.new.ensures in
    only_cited c.args.problem.now c.new.result c.args.opening c.args.leaf (rw g.named c.in_ok-named.ensures.names) g.opening (g.lines ∙ c.in_ok-lines.ensures)

pub returns-clause-passes : goal.returns-clause-passes
returns-clause-passes c =
    let g = c.new.ensures in
    log_passes c.args.problem.now c.in_ok-named.named c.args.opening c.args.terms.goal c.args.terms.counts c.args.leaf c.new.result
    c.in_ok-named.ensures.rules c.in_ok-named.ensures.names c.requires.opening c.requires.counts c.requires.leaf g.named g.opening g.goal g.counts (g.lines ∙ c.in_ok-lines.ensures)
