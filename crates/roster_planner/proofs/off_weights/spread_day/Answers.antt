use Rattle.std.proofs.Common.{◌≤◌, arith}
use Rattle.rwsp_terms.specs.Instance.{shift_count}
use Rattle.propagators.proofs.Fitting.{set_fits}
use Rattle.roster_planner.proofs.off_weights.spread_day.Goals as goal

pub loop-number-preserved : goal.loop-number-preserved
loop-number-preserved c =
    let P = c.args.problem.now in
    let symbol : c.loop-number.number ≤ shift_count P = omega arith in
    set_fits P _ _ c.args.day c.loop-number.number _ c.loop-number.invariant c.in_ok-put.ensures.sets c.requires.day symbol
