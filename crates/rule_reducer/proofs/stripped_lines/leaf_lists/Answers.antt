use Rattle.refutation_checker.proofs.Lists.{not_so}
use Rattle.rule_reducer.proofs.Stripped.{same_words}
use Rattle.rule_reducer.proofs.stripped_lines.leaf_lists.Goals as goal

pub returns-else-holds-clause-same : goal.returns-else-holds-clause-same
returns-else-holds-clause-same c =
    λ none P is. same_words P c.args.dropped.number _ _ _ c.args.leaf.now c.in-Words.is (not_so c.holds.result _ c.holds.ensures c.if-holds.false) (c.claim_loses_weights.ensures none P c.args.dropped.number is)
