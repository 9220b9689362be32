use Rattle.refutation_terms.specs.Ranges.{AreWeightsOf}
use Rattle.roster_planner.proofs.off_weights.spread_weights.Given as goal

abbrev pub invariant-loop-i : goal.invariant-loop-i
invariant-loop-i l = AreWeightsOf l.problem l.weights
