use Rattle.std.proofs.Common.{arith}
use Rattle.std.proofs.lemmas.Int.{ints, clamps}
use Rattle.clean_words.proofs.totals.least_weight.Goals as goal

pub returns-clause-above : goal.returns-clause-above
returns-clause-above c = omega (arith, ints, clamps, c.min.ensures.value, c.weeks_weight-at_least.ensures.above, c.weeks_weight-at_most.ensures.above, c.weeks_weight-at_least.ensures.below, c.weeks_weight-at_most.ensures.below)

pub returns-clause-below : goal.returns-clause-below
returns-clause-below c = omega (arith, ints, clamps, c.min.ensures.value, c.weeks_weight-at_least.ensures.above, c.weeks_weight-at_most.ensures.above, c.weeks_weight-at_least.ensures.below, c.weeks_weight-at_most.ensures.below)
