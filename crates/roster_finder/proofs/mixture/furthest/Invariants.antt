use Rattle.std.specs.Prelude.{◌≤ℤ◌, pos}
use Rattle.roster_finder.proofs.mixture.furthest.Given as goal

abbrev pub invariant-loop-number : goal.invariant-loop-number
invariant-loop-number l = pos 0 ≤ℤ l.most
