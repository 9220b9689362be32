-- All rows are of the same number of words.
use Rattle.std.proofs.Common.{ℕ, replicate}
use Rattle.propagators.proofs.Mending.{wide_replicate}
use Rattle.propagators.proofs.day_marks.DayMarks.none.Goals as goal

pub invariant_of-result : goal.invariant_of-result
invariant_of-result c = wide_replicate c.loop.counter (replicate {A = ℕ} c.args.words 0) c.loop.rows.items c.in_ok-spare.spare c.loop.invariant c.in_ok-spare.ensures
