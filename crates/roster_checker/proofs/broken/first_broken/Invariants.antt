use Rattle.roster_checker.specs.FirstBroken.{MeetsBelow}
use Rattle.roster_checker.proofs.broken.first_broken.Given as goal

abbrev pub invariant-loop-number : goal.invariant-loop-number
invariant-loop-number l = MeetsBelow l.problem l.roster.cells l.number
