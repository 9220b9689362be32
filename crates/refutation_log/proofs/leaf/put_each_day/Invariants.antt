use Rattle.refutation_log.proofs.Adding.{AddsTo, StandsOnDay}
use Rattle.refutation_log.proofs.leaf.put_each_day.Given as goal

abbrev pub invariant-loop-day : goal.invariant-loop-day
invariant-loop-day l = AddsTo l.fn.rules l.rules (StandsOnDay l.problem) l.day
