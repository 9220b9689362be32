use Rattle.roster_finder.specs.Starters.{IsStarterOf}
use Rattle.roster_finder.specs.Walks.{HaveOneShape}
use Rattle.roster_finder.proofs.start.Starter.start.Given as goal

abbrev pub invariant-loop : goal.invariant-loop
invariant-loop l = record { walk : HaveOneShape l.draft.walk l.fn.draft.walk; starter : IsStarterOf l.layer l.draft.walk l.self }
