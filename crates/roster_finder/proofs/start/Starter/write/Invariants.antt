use Rattle.std.proofs.Common.{◌<◌}
use Rattle.roster_finder.specs.Starters.{IsStarterOf}
use Rattle.roster_finder.specs.Walks.{HaveOneShape}
use Rattle.roster_finder.proofs.start.Starter.write.Given as goal

abbrev pub invariant-loop-day : goal.invariant-loop-day
invariant-loop-day l = record { node : l.node < l.layer.nodes; walk : HaveOneShape l.draft.walk l.fn.draft.walk; starter : IsStarterOf l.layer l.draft.walk l.self }
