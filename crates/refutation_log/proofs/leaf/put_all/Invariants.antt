use Rattle.refutation_log.proofs.Adding.{AddsTo, StandsAt}
use Rattle.refutation_log.proofs.leaf.put_all.Given as goal

abbrev pub invariant-loop-number : goal.invariant-loop-number
invariant-loop-number l = AddsTo l.fn.rules l.rules (StandsAt l.number-items) l.number-index
