use Rattle.std.proofs.Common.{◌∙◌}
use Rattle.ways_out.proofs.StillChanges.{all_stay, all_as}
use Rattle.ways_out.proofs.together.loosened_together.Goals.{then-steps-gt0+then-is_member+in_ok-all, else-steps-gt0}
use Rattle.ways_out.proofs.together.loosened_together.Goals as goal

pub loop-place-init : goal.loop-place-init
loop-place-init g c = all_as c.args.grouping.now.asked.now.problem.now c.in_ok-own.own c.args.grouping.now.changes.now c.in_ok-own.ensures c.requires

pub loop-place-preserved : goal.loop-place-preserved
loop-place-preserved g c = elim c.if-steps-gt0.branch [
  | then-steps-gt0+then-is_member+in_ok-all w ↦ all_stay c.loop-place.all c.if-steps-gt0.all c.args.grouping.now.changes.now _ c.most_steps-steps.result (w.all-is ∙ w.in_ok-all.ensures) (w.is_member.ensures w.if-is_member.true) c.loop-place.invariant
  | else-steps-gt0 w ↦ all_as c.loop-place.all c.if-steps-gt0.all c.args.grouping.now.changes.now w.all-is c.loop-place.invariant
]
