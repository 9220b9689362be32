use Rattle.std.proofs.Common.{sym, refl, inl, inr}
use Rattle.rule_reducer.proofs.descent.drop_rule.Goals as goal

pub returns-then-droppable : goal.returns-then-droppable
returns-then-droppable c = inl (rw c.if-droppable.true at c.in_ok-droppable.ensures, sym (c.in_ok-strip.ensures c.args.problem.now c.rule_at-rule.ensures.value))

pub returns : goal.returns
returns c = inr (rw c.if-droppable.false at c.in_ok-droppable.ensures, refl)
