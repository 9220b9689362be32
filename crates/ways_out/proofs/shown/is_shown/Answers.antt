use Rattle.std.proofs.Common.{subst}
use Rattle.ways_out.specs.Helping.{HasNone}
use Rattle.ways_out.proofs.Reaching.{helps_never}
use Rattle.ways_out.proofs.shown.is_shown.Goals as goal

pub returns : goal.returns
returns c = λ yes.
    helps_never c.args.problem.now c.args.change c.most_steps-steps.result c.requires c.most_steps-steps.ensures.value
    (subst HasNone c.in_ok-loosened.ensures (c.in_ok-is_refuted.ensures yes))
