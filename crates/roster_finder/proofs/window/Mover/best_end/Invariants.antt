use Rattle.std.proofs.Common.{◌<◌, IfSome}
use Rattle.roster_finder.proofs.window.Mover.best_end.Given as goal

abbrev pub invariant-loop-node : goal.invariant-loop-node
invariant-loop-node l = IfSome l.best (λ n. n < l.layer.nodes)
