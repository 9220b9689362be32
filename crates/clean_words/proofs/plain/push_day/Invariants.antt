use Rattle.clean_words.proofs.GrowingWeights.{GrowsInDay}
use Rattle.clean_words.proofs.plain.push_day.Given as goal

abbrev pub invariant-loop-i : goal.invariant-loop-i
invariant-loop-i l = GrowsInDay l.initial.weights l.weights l.day l.first l.i l.value
