use Rattle.propagators.proofs.Mending.{BackMended}
use Rattle.propagators.proofs.day_marks.DayMarks.mend_back.Given as goal

abbrev pub invariant-loop-i : goal.invariant-loop-i
invariant-loop-i l = BackMended l.steps l.sets l.day l.fn.self l.self l.i

abbrev pub decreases-loop-i : goal.decreases-loop-i
decreases-loop-i l = l.i
