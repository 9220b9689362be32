use Rattle.std.proofs.Common.{refl, arith}
use Rattle.std.proofs.lemmas.Option.{slice_get-get_or}
use Rattle.refutation_log.proofs.Adding.{StandsFor, adds_more, rule_step, all_listed, some_listed, err_from}
use Rattle.refutation_log.proofs.leaf.put_rules.Goals as goal

pub loop-rule-preserved : goal.loop-rule-preserved
loop-rule-preserved c =
    let P = c.args.problem.now in
    let listed = c.args.listed.now in
    adds_more _ _ _ (StandsFor P listed) _ c.loop-rule.invariant
    (rule_step P _ _ listed _ c.number_of.result _ (slice_get-get_or listed c.loop-rule.rule-index _ (omega arith)) c.number_of.ensures.value c.in_ok-put.ensures.holds)

pub returns-clause-ok : goal.returns-clause-ok
returns-clause-ok c = all_listed c.args.problem.now _ _ c.args.listed.now _ c.loop-rule.rule-index refl (omega arith) c.loop-rule.invariant

pub returns-in_err-put-clause-err : goal.returns-in_err-put-clause-err
returns-in_err-put-clause-err c =
    err_from c.from_residual.result _ (some_listed c.args.problem.now _ _ _ c.args.listed.now _ c.loop-rule.rule-index refl (omega arith) c.loop-rule.invariant c.in_err-put.ensures.kept)
