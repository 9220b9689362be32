-- One day more is within the demand.
use Rattle.std.proofs.Common.{arith}
use Rattle.propagators.proofs.OverrunLemmas.{one_day_more}
use Rattle.propagators.proofs.counts.Counts.first_overrun.Goals as goal

pub loop-day-preserved : goal.loop-day-preserved
loop-day-preserved c = record {
  some = omega arith;
  before = one_day_more c.args.problem.now c.args.self.now c.loop-day.day c.loop-day.invariant.before c.in_default.ensures;
}
