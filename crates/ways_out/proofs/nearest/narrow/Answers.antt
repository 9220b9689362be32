use Rattle.std.proofs.Common.{◌≤◌, ◌+◌, ◌-◌, ◌/◌, ℕ, arith}
use Rattle.ways_out.specs.Loosened.{most_steps, IsStep}
use Rattle.ways_out.proofs.Reaching.{reached_shut, reached_open, helps_with}
use Rattle.ways_out.proofs.nearest.narrow.Goals as goal

pub loop-reached-preserved-in-Refuted : goal.loop-reached-preserved-in-Refuted
loop-reached-preserved-in-Refuted g c =
    let P = c.args.asked.now.problem.now in
    let change = c.args.change in
    let inv = c.loop-reached.invariant in
    let room = c.loop-reached-test.true in
    let mid : ℕ = c.loop-reached.reached.tried + (c.loop-reached.nearest - c.loop-reached.reached.tried) / 2 in
    record {
      reached = reached_shut P c.args.asked.now.effort change mid c.requires.change (rw c.in-Refuted.is at c.in_ok-fewer.ensures);
      order = omega (arith, room);
      within = inv.within;
      step = inv.step;
      roster = inv.roster;
    }

pub loop-reached-preserved : goal.loop-reached-preserved
loop-reached-preserved g c =
    let P = c.args.asked.now.problem.now in
    let change = c.args.change in
    let inv = c.loop-reached.invariant in
    let room = c.loop-reached-test.true in
    let high = inv.step.1 in
    let mid : ℕ = c.loop-reached.reached.tried + (c.loop-reached.nearest - c.loop-reached.reached.tried) / 2 in
    let first : 1 ≤ mid = omega (arith, room) in
    let last : mid ≤ most_steps P change = omega (arith, room, high) in
    let step : IsStep P change mid = (first, last) in
    record {
      reached = reached_open P c.args.asked.now.effort change c.loop-reached.reached mid inv.reached (omega (arith, room)) step (rw c.in-Open.is at c.in_ok-fewer.ensures);
      order = omega (arith, room);
      within = inv.within;
      step = inv.step;
      roster = inv.roster;
    }

pub returns : goal.returns
returns g c =
    let inv = c.loop-reached.invariant in
    let past = c.loop-reached-test.false in
    helps_with c.args.asked.now.problem.now c.args.asked.now.effort c.args.change c.loop-reached.reached c.args.start.end c.loop-reached.nearest inv.reached c.requires.doubled.fewer inv.within inv.order
    (λ less. omega (arith, less, past)) inv.step inv.roster
