use Rattle.std.proofs.Common.{ℕ, ◌<◌}
use Rattle.roster_checker.specs.Places.{MeetsDemand}
use Rattle.roster_checker.proofs.days.day_is_met.Given as goal

abbrev pub invariant-loop-number : goal.invariant-loop-number
invariant-loop-number l = (x : ℕ) → x < l.number → MeetsDemand l.problem x l.day l.cells
