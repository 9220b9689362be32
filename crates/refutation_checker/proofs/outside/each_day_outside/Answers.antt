use Rattle.std.proofs.Common.{◌+◌, arith, sym, subst}
use Rattle.refutation_log.specs.Cited.{IsCited, IsSomeDay}
use Rattle.refutation_log.proofs.Adding.{StandsOnDay, day_steps}
use Rattle.refutation_checker.specs.Outside.{IsLeastOutside}
use Rattle.refutation_checker.proofs.Lists.{Below, more_below, all_below}
use Rattle.refutation_checker.proofs.outside.each_day_outside.Goals as goal

pub loop-day-preserved : goal.loop-day-preserved
loop-day-preserved c =
    let P = c.args.problem.now in
    let list = c.args.named.now in
    subst (IsLeastOutside (Below (StandsOnDay P) (c.loop-day.day + 1)) list) (sym c.lesser-least.ensures)
    (more_below (StandsOnDay P) c.loop-day.day list c.loop-day.least c.day_outside.result c.loop-day.invariant c.day_outside.ensures)

pub returns : goal.returns
returns c =
    let P = c.args.problem.now in
    all_below (StandsOnDay P) (IsCited P (IsSomeDay P)) c.loop-day.day P.days c.args.named.now c.loop-day.least (omega arith) (day_steps P) c.loop-day.invariant
