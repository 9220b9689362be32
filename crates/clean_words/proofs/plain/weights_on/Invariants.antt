use Rattle.std.specs.List.{range_with_len}
use Rattle.clean_words.proofs.GrowingWeights.{GrowsByDays}
use Rattle.clean_words.proofs.plain.weights_on.Given as goal

abbrev pub invariant-loop-i : goal.invariant-loop-i
invariant-loop-i l = GrowsByDays l.weights (range_with_len l.first l.count) l.i l.value
