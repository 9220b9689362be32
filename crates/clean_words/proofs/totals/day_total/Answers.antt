use Rattle.std.proofs.Common.{arith}
use Rattle.std.proofs.lemmas.Int.{ints}
use Rattle.clean_words.proofs.Products.{sum_step}
use Rattle.clean_words.proofs.totals.day_total.Goals as goal

pub loop-number-preserved : goal.loop-number-preserved
loop-number-preserved c =
    sum_step _ _ _ _ _ _ _ _ c.loop-number.invariant.0 c.loop-number.invariant.1 c.least_weight-sum.ensures.value (omega arith) (omega (arith, ints, c.least_weight-sum.ensures.above), omega (arith, ints, c.least_weight-sum.ensures.below)) (omega (arith, ints, c.loop-number.invariant.1.0, c.loop-number.invariant.1.1, c.least_weight-sum.ensures.above, c.least_weight-sum.ensures.below, c.loop-number.auto.number-end, c.loop-number-test.true))
