use Rattle.std.proofs.Common.{◌<◌, length, IfSome}
use Rattle.clean_words.proofs.corner.nearest_used.Given as goal

abbrev pub invariant-loop-k : goal.invariant-loop-k
invariant-loop-k l = IfSome l.best (λ k. k < length l.parts)
