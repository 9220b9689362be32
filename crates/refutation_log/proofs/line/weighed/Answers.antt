use Rattle.refutation_log.proofs.WeighedAnswer.{weighed_answered, weighed_missed}
use Rattle.refutation_log.proofs.line.weighed.Goals as goal

pub returns-in-Ok-Some : goal.returns-in-Ok-Some
returns-in-Ok-Some c =
    weighed_answered c.args.problem.now _ _ _ _ c.in-Ok-Some.state _ c.in-Ok.ensures c.in-Some.ensures (rw c.in-Ok-Some.field-0-is at c.in-Ok-Some.ensures) c.with_rules.ensures

pub returns-in-Ok-None : goal.returns-in-Ok-None
returns-in-Ok-None c =
    weighed_missed c.args.problem.now _ _ _ _ c.in-Ok.ensures c.in-Some.ensures (rw c.in-Ok-None.field-0-is at c.in-Ok-None.ensures)
