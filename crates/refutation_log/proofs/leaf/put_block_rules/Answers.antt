use Rattle.refutation_log.proofs.CitedRules.{off_cited, shift_cited, adds_cited, adds_some_cited}
use Rattle.refutation_log.proofs.leaf.put_block_rules.Goals as goal

pub returns-then-x-eq0-clause-ok : goal.returns-then-x-eq0-clause-ok
returns-then-x-eq0-clause-ok c =
    let P = c.args.problem.now in
    adds_cited P _ _ c.put_rules.result _ _ (off_cited P c.args.x.number c.if-x-eq0.true) c.put_rules.ensures.ok

pub returns-then-x-eq0-clause-err : goal.returns-then-x-eq0-clause-err
returns-then-x-eq0-clause-err c =
    let P = c.args.problem.now in
    adds_some_cited P _ _ c.put_rules.result _ _ (off_cited P c.args.x.number c.if-x-eq0.true) c.put_rules.ensures.err

pub returns-else-x-eq0-clause-ok : goal.returns-else-x-eq0-clause-ok
returns-else-x-eq0-clause-ok c =
    let P = c.args.problem.now in
    adds_cited P _ _ c.put_rules-else-x-eq0.result _ _ (shift_cited P c.args.x c.if-x-eq0.false) c.put_rules-else-x-eq0.ensures.ok

pub returns-else-x-eq0-clause-err : goal.returns-else-x-eq0-clause-err
returns-else-x-eq0-clause-err c =
    let P = c.args.problem.now in
    adds_some_cited P _ _ c.put_rules-else-x-eq0.result _ _ (shift_cited P c.args.x c.if-x-eq0.false) c.put_rules-else-x-eq0.ensures.err
