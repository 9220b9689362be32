use Rattle.std.proofs.Common.{◌≡◌}
use Rattle.roster_finder.proofs.window.Mover.keep.Given as goal

abbrev pub invariant-loop-day : goal.invariant-loop-day
invariant-loop-day l = (l.self.prices.columns ≡ l.fn.self.prices.columns) × (l.self.parents.columns ≡ l.fn.self.parents.columns)
