use Rattle.std.proofs.Common.{◌∙◌}
use Rattle.rule_reducer.proofs.Leaving.{left_more}
use Rattle.rule_reducer.proofs.cells.leave_parts.Goals as goal

pub loop-from-preserved : goal.loop-from-preserved
loop-from-preserved c = record {
  judge = c.leave_part.ensures.same ∙ c.loop-from.invariant.judge;
  left = left_more c.args.problem.now c.args.log.now c.args.size c.args.opening.now c.loop-from.opening c.leave_part.new.opening c.loop-from.from c.loop-from.invariant.left c.in_ok-leave_part.ensures.left;
}
