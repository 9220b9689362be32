use Rattle.std.proofs.Common.{subst}
use Rattle.std.specs.List.Sorted.{IsStrictlyIncreasing}
use Rattle.refutation_terms.specs.Log.{Cites, OpeningCites}
use Rattle.refutation_log.proofs.OneLine.{are_rules, both_named}
use Rattle.refutation_log.proofs.one_leaf.cited_rules.Goals as goal

pub returns-clause-rules : goal.returns-clause-rules
returns-clause-rules c =
    let P = c.args.problem.now in
    are_rules P _ _ _ (OpeningCites c.args.opening.now) (Cites P c.args.line.now) c.new-rules.ensures c.in_ok-put_opening_cited.ensures.ok c.in_ok-put_cited.ensures.ok (subst IsStrictlyIncreasing c.numbers.ensures.value c.numbers.ensures.ascends)

pub returns-clause-names : goal.returns-clause-names
returns-clause-names c =
    let P = c.args.problem.now in
    both_named P _ _ _ (OpeningCites c.args.opening.now) (Cites P c.args.line.now) c.new-rules.ensures c.in_ok-put_opening_cited.ensures.names c.in_ok-put_cited.ensures.names
