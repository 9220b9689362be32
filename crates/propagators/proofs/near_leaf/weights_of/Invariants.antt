use Rattle.refutation_terms.specs.Ranges.{AreWeightsOf}
use Rattle.propagators.proofs.near_leaf.weights_of.Given as goal

abbrev pub invariant-loop-i : goal.invariant-loop-i
invariant-loop-i l = AreWeightsOf l.problem l.weights
