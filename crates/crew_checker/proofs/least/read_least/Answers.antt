use Rattle.std.proofs.Common.{arith}
use Rattle.crew_checker.proofs.LeastEnds.{section_passed, section_back, end_goes_on, nothing_goes_on, found_as}
use Rattle.crew_checker.proofs.least.read_least.Goals as goal

pub loop-weeks-preserved : goal.loop-weeks-preserved
loop-weeks-preserved c =
    let P = c.args.problem.now in
    let section = rw c.in-Some.is at c.in_ok-weeks.ensures.section in
    let less = rw c.in-Some.is at c.in_ok-weeks.ensures.shorter in
    record {
      short = omega (arith, less, c.loop-weeks.invariant.short);
      there = λ n s h. section_passed P c.loop-weeks.sizes c.loop-weeks.rest.now c.in-Some.weeks c.in-Some.behind.now n s c.prove_limits.ensures section (c.loop-weeks.invariant.there n s h);
      back = λ n s h. c.loop-weeks.invariant.back n s (section_back P c.loop-weeks.sizes c.loop-weeks.rest.now c.in-Some.weeks c.in-Some.behind.now n s section h);
    }

pub returns-clause-text : goal.returns-clause-text
returns-clause-text c =
    let P = c.args.problem.now in
    let none = rw c.in_default.is at c.in_ok-weeks.ensures.section in
    found_as c.least_end.result _ _ _ _
    (λ no n s h. nothing_goes_on P c.loop-weeks.sizes c.loop-weeks.rest.now c.prove_limits.ensures none no n s (c.loop-weeks.invariant.there n s h))
    (λ least end. c.loop-weeks.invariant.back least.0 least.1.cells (end_goes_on P c.loop-weeks.sizes c.loop-weeks.rest.now least.0 least.1.cells end))
    c.least_end.ensures.end
