use Rattle.std.proofs.Common.{◌≡◌, length}
use Rattle.roster_finder.proofs.mixture.Mixture.renewed_hull.Given as goal

abbrev pub invariant-loop-place : goal.invariant-loop-place
invariant-loop-place l = length l.hull.vectors ≡ l.place
