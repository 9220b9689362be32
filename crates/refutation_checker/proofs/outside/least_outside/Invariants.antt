use Rattle.refutation_checker.proofs.Lists.{HoldsBelow}
use Rattle.refutation_checker.proofs.outside.least_outside.Given as goal

abbrev pub invariant-loop-number : goal.invariant-loop-number
invariant-loop-number l = HoldsBelow l.named l.number-items l.number-index
