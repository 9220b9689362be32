use Rattle.std.proofs.Common.{◌≡◌, drop}
use Rattle.rwsp_terms.specs.Weights.{weight_at}
use Rattle.rwsp_terms.proofs.weights.value_at.Given as goal

abbrev pub invariant-loop-entry : goal.invariant-loop-entry
invariant-loop-entry l = weight_at (drop l.entry-index l.entries) l.day l.x.number ≡ weight_at l.entries l.day l.x.number
