use Rattle.std.proofs.Common.{◌<◌}
use Rattle.roster_finder.specs.Walks.{HaveOneShape}
use Rattle.roster_finder.proofs.window.Mover.write.Given as goal

abbrev pub invariant-loop-day : goal.invariant-loop-day
invariant-loop-day l = record { node : l.node < l.layer.nodes; same : HaveOneShape l.walk l.initial.walk }
