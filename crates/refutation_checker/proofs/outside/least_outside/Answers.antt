use Rattle.std.proofs.Common.{refl, below_more}
use Rattle.refutation_checker.proofs.Lists.{least_of, holds_all, not_so, is_so}
use Rattle.refutation_checker.proofs.outside.least_outside.Goals as goal

pub returns-then-not-holds : goal.returns-then-not-holds
returns-then-not-holds c =
    least_of c.args.cited.now c.numbers-number-items.result.now c.args.named.now c.loop-number.number-index _ c.numbers-number-items.ensures.value c.numbers-number-items.ensures.ascends
    c.loop-number-test.true refl c.loop-number.invariant (not_so c.holds.result _ c.holds.ensures c.if-not-holds.true)

pub loop-number-preserved : goal.loop-number-preserved
loop-number-preserved c = below_more _ _ c.loop-number.invariant (is_so c.holds.result _ c.holds.ensures c.if-not-holds.false)

pub returns : goal.returns
returns c =
    holds_all c.args.cited.now c.numbers-number-items.result.now c.args.named.now c.loop-number.number-index c.numbers-number-items.ensures.value c.loop-number-test.false c.loop-number.invariant
