use Rattle.std.proofs.Common.{◌≡◌}
use Rattle.roster_finder.proofs.start.mark_before.Given as goal

abbrev pub invariant-loop-number : goal.invariant-loop-number
invariant-loop-number l = (l.marks.rows ≡ l.initial.marks.rows) × (l.marks.columns ≡ l.initial.marks.columns)
