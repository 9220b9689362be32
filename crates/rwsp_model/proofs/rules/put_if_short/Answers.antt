use Rattle.rwsp_model.proofs.ShortRules.{put_short}
use Rattle.rwsp_model.proofs.rules.put_if_short.Goals as goal

pub returns-in_ok-put-clause-holds : goal.returns-in_ok-put-clause-holds
returns-in_ok-put-clause-holds c =
    put_short c.args.problem.now _ _ _ _ c.rule_at.ensures.value (c.is_short.ensures.0 c.if-is_short.true) c.in_ok-put.ensures.holds
