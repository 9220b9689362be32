use Rattle.std.proofs.Common.{length}
use Rattle.crew_size.specs.Places.{IsPlace, IsShortPlace}
use Rattle.crew_checker.proofs.check.check_staff.Given as goal

abbrev pub invariant-loop-staffed : goal.invariant-loop-staffed
invariant-loop-staffed g l = record {
  place : IsPlace l.problem l.bytes l.sections;
  short : IsShortPlace l.sections;
}

abbrev pub decreases-loop-staffed : goal.decreases-loop-staffed
decreases-loop-staffed g l = length l.sections.rest
