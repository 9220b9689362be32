use Rattle.std.proofs.Common.{◌<◌}
use Rattle.roster_finder.specs.Walks.{HaveOneShape}
use Rattle.roster_finder.proofs.draft.Draft.count.Given as goal

abbrev pub invariant-loop : goal.invariant-loop
invariant-loop l = record { at : l.at < l.self.walk.cells; same : HaveOneShape l.self.walk l.initial.self.walk }
