use Rattle.std.proofs.Common.{◌<◌, length, IfSome}
use Rattle.roster_finder.proofs.heavy_word.best_part_to.Given as goal

abbrev pub invariant-loop-first : goal.invariant-loop-first
invariant-loop-first l = IfSome l.best (λ p. p.last < length l.places)
