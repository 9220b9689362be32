use Rattle.refutation_log.proofs.Adding.{StandsOn}
use Rattle.refutation_checker.specs.Outside.{IsLeastOutside}
use Rattle.refutation_checker.proofs.Lists.{Below}
use Rattle.refutation_checker.proofs.outside.least_day_outside.Given as goal

abbrev pub invariant-loop-entry : goal.invariant-loop-entry
invariant-loop-entry l = IsLeastOutside (Below (StandsOn l.problem l.entry-items) l.entry-index) l.named l.least
