use Rattle.std.proofs.Common.{ℕ, List, ◌≤◌, length}
use Rattle.rwsp_terms.specs.declared.data.Symbol.{Symbol}
use Rattle.crew_checker.specs.Least.{HasLeast}
use Rattle.crew_checker.proofs.LeastEnds.{GoesOn}
use Rattle.crew_checker.proofs.least.read_least.Given as goal

abbrev pub invariant-loop-weeks : goal.invariant-loop-weeks
invariant-loop-weeks l = record {
  short : length l.rest ≤ length l.bytes;
  there : (n : ℕ) (s : List Symbol) → HasLeast l.problem l.bytes n s → GoesOn l.problem l.sizes l.rest n s;
  back : (n : ℕ) (s : List Symbol) → GoesOn l.problem l.sizes l.rest n s → HasLeast l.problem l.bytes n s;
}

abbrev pub decreases-loop-weeks : goal.decreases-loop-weeks
decreases-loop-weeks l = length l.rest
