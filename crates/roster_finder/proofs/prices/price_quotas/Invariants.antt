use Rattle.roster_finder.specs.ByStep.{IsByStep}
use Rattle.roster_finder.proofs.prices.price_quotas.Given as goal

abbrev pub invariant-loop-place : goal.invariant-loop-place
invariant-loop-place l = IsByStep l.setting l.weights
