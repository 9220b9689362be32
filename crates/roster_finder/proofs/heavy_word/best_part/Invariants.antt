use Rattle.std.proofs.Common.{◌<◌, length, IfSome}
use Rattle.roster_finder.proofs.heavy_word.best_part.Given as goal

abbrev pub invariant-loop-last : goal.invariant-loop-last
invariant-loop-last l = IfSome l.best (λ p. p.last < length l.places)
