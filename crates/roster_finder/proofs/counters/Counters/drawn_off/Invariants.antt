use Rattle.std.proofs.Common.{◌<◌, IfSome}
use Rattle.roster_finder.proofs.counters.Counters.drawn_off.Given as goal

abbrev pub invariant-loop-weekday : goal.invariant-loop-weekday
invariant-loop-weekday l = IfSome l.drawn (λ place. (place.0 < l.self.cells.rows) × (place.1 < l.self.cells.columns))

abbrev pub invariant-loop-symbol : goal.invariant-loop-symbol
invariant-loop-symbol l = IfSome l.drawn (λ place. (place.0 < l.self.cells.rows) × (place.1 < l.self.cells.columns))
