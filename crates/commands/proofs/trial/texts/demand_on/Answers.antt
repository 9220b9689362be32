use Rattle.std.proofs.Common.{◌≡◌, ◌+◌, ◌∙◌, pos, arith}
use Rattle.rwsp_terms.specs.Instance.{shift_demand}
use Rattle.commands.proofs.Demand.{sum_more, least_of_shift, small_cast}
use Rattle.commands.proofs.trial.texts.demand_on.Goals as goal

pub loop-x-preserved : goal.loop-x-preserved
loop-x-preserved c =
    let P = c.args.problem.now in
    let m = (shift_demand P (c.loop-x.x + 1) c.args.day).least in
    let is : c.demand_least.result ≡ pos m = c.demand_least.ensures.value ∙ least_of_shift P c.loop-x.x c.args.day in
    let cast = small_cast c.demand_least.result m is c.demand_least.ensures.below in
    let few = cast.0 in
    let same = cast.1 in
    record {
      sum = sum_more (λ x. (shift_demand P x c.args.day).least) c.loop-x.x c.loop-x.demand _ c.loop-x.invariant.sum same;
      few = omega arith;
    }
