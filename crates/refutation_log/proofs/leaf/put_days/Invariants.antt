use Rattle.refutation_log.proofs.Adding.{AddsTo, StandsOn}
use Rattle.refutation_log.proofs.leaf.put_days.Given as goal

abbrev pub invariant-loop-entry : goal.invariant-loop-entry
invariant-loop-entry l = AddsTo l.fn.rules l.rules (StandsOn l.problem l.entry-items) l.entry-index
