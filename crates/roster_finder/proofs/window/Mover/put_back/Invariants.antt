use Rattle.roster_finder.specs.Walks.{HaveOneShape}
use Rattle.roster_finder.proofs.window.Mover.put_back.Given as goal

abbrev pub invariant-loop-day : goal.invariant-loop-day
invariant-loop-day l = HaveOneShape l.draft.walk l.initial.draft.walk
