use Rattle.refutation_log.proofs.Adding.{AddsTo, StandsFor}
use Rattle.refutation_log.proofs.leaf.put_rules.Given as goal

abbrev pub invariant-loop-rule : goal.invariant-loop-rule
invariant-loop-rule l = AddsTo l.fn.rules l.rules (StandsFor l.problem l.listed) l.rule-index
