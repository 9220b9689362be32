use Rattle.roster_page.specs.LeastRest.{IsLeastBelow}
use Rattle.roster_page.proofs.least_rest.least_rest.Given as goal

abbrev pub invariant-loop-place : goal.invariant-loop-place
invariant-loop-place l = IsLeastBelow l.problem l.cells l.place l.least
