use Rattle.clean_words.specs.WeightTables.{HoldsWeights}
use Rattle.clean_words.proofs.weight_table.weight_table.Given as goal

abbrev pub invariant-loop-k : goal.invariant-loop-k
invariant-loop-k l = HoldsWeights l.weights l.table.items l.k
