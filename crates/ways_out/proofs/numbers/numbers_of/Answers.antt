use Rattle.std.proofs.Common.{arith}
use Rattle.ways_out.proofs.Reaching.{helps_next, helps_never}
use Rattle.ways_out.proofs.Single.{none_with_none, none_further}
use Rattle.ways_out.proofs.numbers.numbers_of.Goals as goal

pub loop-shut-init : goal.loop-shut-init
loop-shut-init g c = record {
  few = omega arith;
  none = none_with_none c.args.asked.now.problem.now c.args.change c.prove_limits.ensures c.requires.demand c.requires.change c.requires.none;
}

pub loop-shut-preserved : goal.loop-shut-preserved
loop-shut-preserved g c =
    let room = c.loop-shut-test.true in
    let all = c.requires.most in
    record {
      few = omega (arith, room);
      none = none_further c.args.asked.now.problem.now c.args.change c.loop-shut.shut c.prove_limits.ensures c.requires.change (omega (arith, room, all)) c.loop-shut.invariant.none
          (rw c.in-Refuted.is at c.in_ok-judge_number.ensures);
    }

pub returns-in-Enough : goal.returns-in-Enough
returns-in-Enough g c =
    let room = c.loop-shut-test.true in
    let all = c.requires.most in
    let found = rw c.in-Enough.is at c.in_ok-judge_number.ensures in
    let next = found.0 in
    helps_next c.args.asked.now.problem.now c.args.asked.now.effort c.args.change c.loop-shut.shut c.in-Enough.steps c.requires.change next (omega (arith, room, all, next)) c.loop-shut.invariant.none found.1

pub returns-in-Open : goal.returns-in-Open
returns-in-Open g c =
    let room = c.loop-shut-test.true in
    let all = c.requires.most in
    record { further = omega (arith, room, all); none = c.loop-shut.invariant.none; next = rw c.in-Open.is at c.in_ok-judge_number.ensures }

pub returns : goal.returns
returns g c =
    let end = c.loop-shut-test.false in
    let all = c.requires.most in
    let few = c.loop-shut.invariant.few in
    helps_never c.args.asked.now.problem.now c.args.change c.loop-shut.shut c.requires.change (omega (arith, end, all, few)) c.loop-shut.invariant.none
