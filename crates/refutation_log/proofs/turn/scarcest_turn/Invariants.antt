use Rattle.std.proofs.Common.{◌+◌}
use Rattle.refutation_log.specs.Turns.{IsScarcestUpTo}
use Rattle.refutation_log.proofs.turn.scarcest_turn.Given as goal

abbrev pub invariant-loop-day : goal.invariant-loop-day
invariant-loop-day l = IsScarcestUpTo l.problem (l.day + 1) 0 l.best
