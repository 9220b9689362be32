use Rattle.rule_reducer.proofs.KeptParts.{reduced_from, reduced_keeps}
use Rattle.rule_reducer.proofs.Needs.{needs_each}
use Rattle.rule_reducer.proofs.Together.{needs_together}
use Rattle.rule_reducer.proofs.reducing.reduce_passing.Goals as goal

pub returns-clause-kept : goal.returns-clause-kept
returns-clause-kept c =
    let P = c.args.problem.now in
    reduced_keeps P c.args.log c.into_log.result (reduced_from P c.args.log _ _ c.into_log.result c.of-reduced.ensures c.in_ok-descend_all.ensures.reduced c.into_log.ensures)

pub returns-clause-needed : goal.returns-clause-needed
returns-clause-needed c =
    let P = c.args.problem.now in
    needs_each P c.args.log c.into_log.result (reduced_from P c.args.log _ _ c.into_log.result c.of-reduced.ensures c.in_ok-descend_all.ensures.reduced c.into_log.ensures)

pub returns-clause-together : goal.returns-clause-together
returns-clause-together c =
    let P = c.args.problem.now in
    needs_together P c.into_log.result
    (needs_each P c.args.log c.into_log.result (reduced_from P c.args.log _ _ c.into_log.result c.of-reduced.ensures c.in_ok-descend_all.ensures.reduced c.into_log.ensures))
    (rw c.into_log.ensures c.in_ok-descend_all.ensures.passes)
