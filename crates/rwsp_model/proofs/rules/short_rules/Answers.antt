use Rattle.std.proofs.Common.{refl, arith}
use Rattle.rwsp_model.proofs.ShortRules.{lists_more, lists_all, all_in_range, names_all}
use Rattle.rwsp_model.proofs.rules.short_rules.Goals as goal

pub loop-place-preserved : goal.loop-place-preserved
loop-place-preserved c =
    lists_more c.args.problem.now _ _ _ _ refl c.loop-place.invariant c.put_if_short.ensures.ascends c.in_ok-put_if_short.ensures.holds

pub returns-clause-in_range : goal.returns-clause-in_range
returns-clause-in_range c = all_in_range c.args.problem.now _ (lists_all c.args.problem.now _ _ (omega arith) c.loop-place.invariant)

pub returns-clause-numbers : goal.returns-clause-numbers
returns-clause-numbers c = lists_all c.args.problem.now _ _ (omega arith) c.loop-place.invariant

pub returns-clause-rules : goal.returns-clause-rules
returns-clause-rules c = names_all c.args.problem.now _ (lists_all c.args.problem.now _ _ (omega arith) c.loop-place.invariant)
