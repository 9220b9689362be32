use Rattle.std.proofs.Common.{◌<◌, length, IfSome}
use Rattle.roster_finder.proofs.start.Starter.best_step.Given as goal

abbrev pub invariant-loop-symbol : goal.invariant-loop-symbol
invariant-loop-symbol l = IfSome l.best (λ n. n < length l.layer.steps.items)
