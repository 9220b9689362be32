use Rattle.propagators.proofs.Mending.{FrontMended}
use Rattle.propagators.proofs.day_marks.DayMarks.mend_front.Given as goal

abbrev pub invariant-loop-i : goal.invariant-loop-i
invariant-loop-i l = FrontMended l.steps l.sets l.day l.fn.self l.self l.i
