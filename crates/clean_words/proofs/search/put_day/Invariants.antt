use Rattle.clean_words.proofs.Stepping.{SteppedBelow}
use Rattle.clean_words.proofs.search.put_day.Given as goal

abbrev pub invariant-loop-number : goal.invariant-loop-number
invariant-loop-number l = SteppedBelow l.problem l.weights l.word l.day l.number l.initial.next l.next
