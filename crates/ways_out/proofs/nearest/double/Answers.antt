use Rattle.std.proofs.Common.{◌≤◌, arith, inl, inr}
use Rattle.ways_out.specs.Loosened.{most_steps, IsStep}
use Rattle.ways_out.proofs.Reaching.{reached_first, reached_shut, reached_open, none_found_first, none_found_more, none_found_next}
use Rattle.ways_out.proofs.nearest.double.Goals as goal

pub doubling-init : goal.doubling-init
doubling-init g c =
    let P = c.args.asked.now.problem.now in
    let order = c.requires.order in
    let steps = c.requires.steps in
    record {
      reached = reached_first P c.args.asked.now.effort c.args.change c.args.shut c.requires.none;
      order = order;
      fewer = none_found_first P c.args.asked.now.effort c.args.change c.args.shut (omega (arith, order, steps)) c.requires.none;
      made = λ k d less. absurd (omega (arith, less));
    }

pub doubling-preserved-in-Refuted : goal.doubling-preserved-in-Refuted
doubling-preserved-in-Refuted g c =
    let P = c.args.asked.now.problem.now in
    let effort = c.args.asked.now.effort in
    let next = c.next_power_of_two-steps.ensures in
    let none = rw c.in-Refuted.is at c.in_ok-fewer.ensures.said in
    record {
      reached = reached_shut P effort c.args.change c.next_power_of_two-steps.result c.requires.change none;
      order = omega arith;
      fewer = none_found_next P effort c.args.change c.doubling.reached.tried c.next_power_of_two-steps.result next.power next.upper_bound c.doubling.invariant.fewer (inl none);
      made = c.in_ok-fewer.ensures.made;
    }

pub doubling-preserved : goal.doubling-preserved
doubling-preserved g c =
    let P = c.args.asked.now.problem.now in
    let effort = c.args.asked.now.effort in
    let change = c.args.change in
    let steps = c.next_power_of_two-steps.result in
    let next = c.next_power_of_two-steps.ensures in
    let above = next.lower_bound in
    let under = c.if-steps-below.false in
    let most = c.requires.steps in
    let left = rw c.in-Open.is at c.in_ok-fewer.ensures.said in
    let first : 1 ≤ steps = omega (arith, above) in
    let last : steps ≤ most_steps P change = omega (arith, under, most) in
    let step : IsStep P change steps = (first, last) in
    record {
      reached = reached_open P effort change c.doubling.reached steps c.doubling.invariant.reached (omega (arith, above)) step left;
      order = omega (arith, under);
      fewer = none_found_next P effort change c.doubling.reached.tried steps next.power next.upper_bound c.doubling.invariant.fewer (inr left);
      made = c.in_ok-fewer.ensures.made;
    }

pub returns-then-steps-below-clause-doubled : goal.returns-then-steps-below-clause-doubled
returns-then-steps-below-clause-doubled g c =
    let P = c.args.asked.now.problem.now in
    let inv = c.doubling.invariant in
    let next = c.next_power_of_two-steps.ensures in
    let past = c.if-steps-below.true in
    let order = inv.order in
    record {
      reached = inv.reached;
      order = order;
      step = (omega (arith, order), c.requires.steps);
      fewer = none_found_more P c.args.asked.now.effort c.args.change c.doubling.reached.tried c.next_power_of_two-steps.result c.args.below next.power next.upper_bound inv.fewer (omega (arith, past));
    }

pub returns-in-Enough-clause-doubled : goal.returns-in-Enough-clause-doubled
returns-in-Enough-clause-doubled g c =
    let P = c.args.asked.now.problem.now in
    let inv = c.doubling.invariant in
    let next = c.next_power_of_two-steps.ensures in
    let under = c.if-steps-below.false in
    let most = c.requires.steps in
    let found = rw c.in-Enough.is at c.in_ok-fewer.ensures.said in
    let above = found.0 in
    let within = found.1 in
    record {
      reached = inv.reached;
      order = above;
      step = (omega (arith, above), omega (arith, within, under, most));
      fewer = none_found_more P c.args.asked.now.effort c.args.change c.doubling.reached.tried c.next_power_of_two-steps.result c.in-Enough.fewer next.power next.upper_bound inv.fewer within;
    }
