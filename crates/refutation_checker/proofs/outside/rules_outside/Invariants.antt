use Rattle.refutation_log.proofs.Adding.{StandsFor}
use Rattle.refutation_checker.specs.Outside.{IsLeastOutside}
use Rattle.refutation_checker.proofs.Lists.{Below}
use Rattle.refutation_checker.proofs.outside.rules_outside.Given as goal

abbrev pub invariant-loop-rule : goal.invariant-loop-rule
invariant-loop-rule l = IsLeastOutside (Below (StandsFor l.problem l.rules) l.rule-index) l.named l.least
