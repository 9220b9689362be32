use Rattle.std.proofs.Common.{arith}
use Rattle.commands.specs.Trial.{demand_on}
use Rattle.commands.proofs.Demand.{sum_more}
use Rattle.commands.proofs.trial.texts.whole_demand.Goals as goal

pub loop-day-preserved : goal.loop-day-preserved
loop-day-preserved c =
    let few = c.demand_on-demand.ensures.few in
    record {
      sum = sum_more (demand_on c.args.problem.now) c.loop-day.day c.loop-day.demand c.demand_on-demand.result c.loop-day.invariant.sum c.demand_on-demand.ensures.value;
      few = omega arith;
    }
