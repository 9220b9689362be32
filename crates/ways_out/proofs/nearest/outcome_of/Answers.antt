use Rattle.ways_out.proofs.Reaching.{helps_never}
use Rattle.ways_out.proofs.nearest.outcome_of.Goals as goal

pub returns-in-Refuted : goal.returns-in-Refuted
returns-in-Refuted g c =
    helps_never c.args.asked.now.problem.now c.args.change c.most_steps-most.result c.requires.change c.most_steps-most.ensures.value
    (rw c.in-Refuted.is at c.in_ok-steps.ensures)
