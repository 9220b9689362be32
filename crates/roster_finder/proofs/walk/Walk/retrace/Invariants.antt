use Rattle.std.proofs.Common.{◌<◌}
use Rattle.roster_finder.specs.Walks.{HaveOneShape, IsWalkOf}
use Rattle.roster_finder.proofs.walk.Walk.retrace.Given as goal

abbrev pub invariant-loop-day : goal.invariant-loop-day
invariant-loop-day l = record { node : l.node < l.layer.nodes; at : l.at < l.self.cells; walk : IsWalkOf l.layer l.self; same : HaveOneShape l.self l.initial.self }
