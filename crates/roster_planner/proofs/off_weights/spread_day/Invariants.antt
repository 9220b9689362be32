use Rattle.refutation_terms.specs.Ranges.{AreWeightsOf}
use Rattle.roster_planner.proofs.off_weights.spread_day.Given as goal

abbrev pub invariant-loop-number : goal.invariant-loop-number
invariant-loop-number l = AreWeightsOf l.problem l.weights
