use Rattle.roster_finder.specs.Moves.{IsMoverOf}
use Rattle.roster_finder.proofs.window.Mover.sweep_day.Given as goal

abbrev pub invariant-loop-number : goal.invariant-loop-number
invariant-loop-number l = IsMoverOf l.layer l.self
