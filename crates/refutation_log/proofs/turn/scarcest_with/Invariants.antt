use Rattle.refutation_log.specs.Turns.{IsScarcestUpTo}
use Rattle.refutation_log.proofs.turn.scarcest_with.Given as goal

abbrev pub invariant-loop-shift : goal.invariant-loop-shift
invariant-loop-shift l = IsScarcestUpTo l.problem l.day l.shift l.best
