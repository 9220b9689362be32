use Rattle.refutation_log.proofs.Adding.{StandsOnDay}
use Rattle.refutation_checker.specs.Outside.{IsLeastOutside}
use Rattle.refutation_checker.proofs.Lists.{Below}
use Rattle.refutation_checker.proofs.outside.each_day_outside.Given as goal

abbrev pub invariant-loop-day : goal.invariant-loop-day
invariant-loop-day l = IsLeastOutside (Below (StandsOnDay l.problem) l.day) l.named l.least
