use Rattle.std.proofs.Common.{◌≡◌, ◌<◌}
use Rattle.roster_finder.proofs.heavy_word.Weigher.trace_week.Given as goal

abbrev pub invariant-loop-weekday : goal.invariant-loop-weekday
invariant-loop-weekday l = record { node : l.node < l.layer.nodes; rows : l.taken.rows ≡ l.initial.taken.rows; columns : l.taken.columns ≡ l.initial.taken.columns; below : l.taken.numbers.below ≡ l.initial.taken.numbers.below }
