use Rattle.std.proofs.Common.{◌≡◌}
use Rattle.roster_finder.proofs.heavy_word.use_week.Given as goal

abbrev pub invariant-loop-weekday : goal.invariant-loop-weekday
invariant-loop-weekday l = (l.uses.rows ≡ l.initial.uses.rows) × (l.uses.columns ≡ l.initial.uses.columns)
