use Rattle.roster_finder.specs.Walks.{HaveOneShape}
use Rattle.roster_finder.proofs.draft.Draft.count_all.Given as goal

abbrev pub invariant-loop-position : goal.invariant-loop-position
invariant-loop-position l = HaveOneShape l.self.walk l.initial.self.walk
