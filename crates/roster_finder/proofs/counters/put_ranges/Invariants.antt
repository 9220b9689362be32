use Rattle.std.proofs.Common.{◌≡◌}
use Rattle.roster_finder.proofs.counters.put_ranges.Given as goal

abbrev pub invariant-loop-weekday : goal.invariant-loop-weekday
invariant-loop-weekday l = (l.cells.rows ≡ l.initial.cells.rows) × (l.cells.columns ≡ l.initial.cells.columns)

abbrev pub invariant-loop-symbol : goal.invariant-loop-symbol
invariant-loop-symbol l = (l.cells.rows ≡ l.initial.cells.rows) × (l.cells.columns ≡ l.initial.cells.columns)
