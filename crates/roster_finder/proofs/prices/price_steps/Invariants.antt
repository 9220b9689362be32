use Rattle.roster_finder.specs.ByStep.{IsByStep}
use Rattle.roster_finder.proofs.prices.price_steps.Given as goal

abbrev pub invariant-loop-weekday : goal.invariant-loop-weekday
invariant-loop-weekday l = IsByStep l.setting l.weights

abbrev pub invariant-loop-number : goal.invariant-loop-number
invariant-loop-number l = IsByStep l.setting l.weights
