use Rattle.clean_words.proofs.Stepping.{SteppedTo}
use Rattle.clean_words.proofs.search.next_weights.Given as goal

abbrev pub invariant-loop-i : goal.invariant-loop-i
invariant-loop-i l = SteppedTo l.problem l.weights l.word l.i l.next
