use Rattle.std.proofs.Common.{◌≡◌}
use Rattle.roster_finder.proofs.start.mark_closing.Given as goal

abbrev pub invariant-loop-day : goal.invariant-loop-day
invariant-loop-day l = (l.closes.rows ≡ l.initial.closes.rows) × (l.closes.columns ≡ l.initial.closes.columns)
