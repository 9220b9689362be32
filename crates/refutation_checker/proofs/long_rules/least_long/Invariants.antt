use Rattle.refutation_checker.proofs.Lists.{AreShortBelow}
use Rattle.refutation_checker.proofs.long_rules.least_long.Given as goal

abbrev pub invariant-loop-number : goal.invariant-loop-number
invariant-loop-number l = AreShortBelow l.problem l.number-items l.number-index
