use Rattle.std.proofs.Common.{arith}
use Rattle.refutation_log.proofs.Adding.{StandsOnDay, adds_more, each_day, first_days, err_from}
use Rattle.refutation_log.proofs.leaf.put_each_day.Goals as goal

pub loop-day-preserved : goal.loop-day-preserved
loop-day-preserved c =
    adds_more _ _ _ (StandsOnDay c.args.problem.now) c.loop-day.day c.loop-day.invariant c.in_ok-put_day_rule.ensures.ok

pub returns-clause-ok : goal.returns-clause-ok
returns-clause-ok c = each_day c.args.problem.now _ _ c.loop-day.day (omega arith) c.loop-day.invariant

pub returns-in_err-put_day_rule-clause-err : goal.returns-in_err-put_day_rule-clause-err
returns-in_err-put_day_rule-clause-err c =
    err_from c.from_residual.result _ (first_days c.args.problem.now _ _ _ c.loop-day.day (omega arith) c.loop-day.invariant c.in_err-put_day_rule.ensures.err)
