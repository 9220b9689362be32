use Rattle.std.proofs.Common.{◌≡◌, ◌+◌, length}
use Rattle.roster_finder.proofs.heavy_word.places_of.Given as goal

abbrev pub invariant-loop-week : goal.invariant-loop-week
invariant-loop-week l = length l.places.items ≡ l.week + 1
