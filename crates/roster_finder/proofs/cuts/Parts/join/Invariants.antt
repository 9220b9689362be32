use Rattle.std.proofs.Common.{◌≡◌}
use Rattle.roster_finder.proofs.cuts.Parts.join.Given as goal

abbrev pub invariant-loop-place : goal.invariant-loop-place
invariant-loop-place l = record { weekdays : l.self.weekdays ≡ l.fn.self.weekdays; nodes : l.self.nodes ≡ l.fn.self.nodes; places : l.self.above.below ≡ l.fn.self.above.below }
