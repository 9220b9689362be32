use Rattle.refutation_log.proofs.Scarcest.{next_left, next_taken}
use Rattle.refutation_log.proofs.turn.scarcest_with.Goals as goal
use Rattle.refutation_log.proofs.turn.scarcest_with.Goals.{then-is_scarcer, else-is_scarcer}

pub loop-shift-preserved : goal.loop-shift-preserved
loop-shift-preserved c =
    elim c.if-is_scarcer.branch [
      | then-is_scarcer w ↦ rw w.best-is
          (next_taken c.args.problem.now c.args.day c.loop-shift.shift c.loop-shift.best c.loop-shift.invariant (c.is_scarcer.ensures.0 w.if-is_scarcer.true))
      | else-is_scarcer w ↦ rw w.best-is
          (next_left c.args.problem.now c.args.day c.loop-shift.shift c.loop-shift.best c.loop-shift.invariant (λ is. let yes = c.is_scarcer.ensures.1 is in let no = w.if-is_scarcer.false in absurd (cc)))
    ]
