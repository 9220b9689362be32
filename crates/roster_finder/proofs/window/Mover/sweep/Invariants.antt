use Rattle.roster_finder.specs.Moves.{IsMoverOf}
use Rattle.roster_finder.proofs.window.Mover.sweep.Given as goal

abbrev pub invariant-loop-day : goal.invariant-loop-day
invariant-loop-day l = IsMoverOf l.layer l.self
