use Rattle.std.proofs.Common.{◌<◌}
use Rattle.roster_finder.proofs.walk.Walk.joins.Given as goal

abbrev pub invariant-loop : goal.invariant-loop
invariant-loop l = (l.node < l.layer.nodes) × (l.at < l.self.cells)
