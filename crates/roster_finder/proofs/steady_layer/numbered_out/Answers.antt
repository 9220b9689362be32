use Rattle.std.proofs.Common.{◌<◌, length, ◌∙◌, arith}
use Rattle.roster_finder.proofs.steady_layer.numbered_out.Goals as goal

pub loop-number-preserved : goal.loop-number-preserved
loop-number-preserved c =
    let lt : c.loop-number.number < length c.args.steps.now = omega arith in
    (c.put_number.ensures.long ∙ c.loop-number.invariant.0, c.put_number.ensures.below _ lt c.loop-number.invariant.1)
