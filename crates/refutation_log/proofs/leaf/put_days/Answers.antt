use Rattle.std.proofs.Common.{arith}
use Rattle.std.proofs.lemmas.Option.{slice_get-get_or}
use Rattle.refutation_log.proofs.Adding.{StandsOn, adds_more, weight_step, all_days, some_days, err_from}
use Rattle.refutation_log.proofs.leaf.put_days.Goals as goal

pub loop-entry-preserved : goal.loop-entry-preserved
loop-entry-preserved c =
    let items = c.entries-entry-items.result.now in
    adds_more _ _ _ (StandsOn c.args.problem.now items) _ c.loop-entry.invariant
    (weight_step c.args.problem.now _ _ items _ _ (slice_get-get_or items c.loop-entry.entry-index _ (omega arith)) c.in_ok-put_day_rule.ensures.ok)

pub returns-clause-ok : goal.returns-clause-ok
returns-clause-ok c = all_days c.args.problem.now _ _ c.entries-entry-items.result.now _ _ c.entries-entry-items.ensures.value (omega arith) c.loop-entry.invariant

pub returns-in_err-put_day_rule-clause-err : goal.returns-in_err-put_day_rule-clause-err
returns-in_err-put_day_rule-clause-err c =
    err_from c.from_residual.result _ (some_days c.args.problem.now _ _ _ c.entries-entry-items.result.now _ _ c.entries-entry-items.ensures.value (omega arith) c.loop-entry.invariant c.in_err-put_day_rule.ensures.err)
