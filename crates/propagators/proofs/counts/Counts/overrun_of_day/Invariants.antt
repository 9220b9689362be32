use Rattle.std.proofs.Common.{ℕ, ◌<◌}
use Rattle.propagators.specs.Counted.{has_counted}
use Rattle.propagators.specs.Overruns.{IsWithinDemand}
use Rattle.propagators.proofs.counts.Counts.overrun_of_day.Given as goal

abbrev pub invariant-loop-number : goal.invariant-loop-number
invariant-loop-number l = (y : ℕ) → y < l.number → IsWithinDemand l.problem (has_counted l.self) l.day y
