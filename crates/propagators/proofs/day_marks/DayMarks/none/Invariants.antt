use Rattle.std.proofs.Common.{◌≡◌, replicate}
use Rattle.propagators.proofs.day_marks.DayMarks.none.Given as goal

abbrev pub invariant-loop : goal.invariant-loop
invariant-loop l = l.rows.items ≡ replicate l.counter (replicate l.words 0)
