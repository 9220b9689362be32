use Rattle.std.proofs.Common.{ℕ, ◌<◌, ◌≤◌}
use Rattle.rwsp_terms.specs.Instance.{shift_count, IsDay}
use Rattle.propagators.specs.Counted.{has_counted}
use Rattle.propagators.specs.Overruns.{IsWithinDemand}
use Rattle.propagators.proofs.counts.Counts.first_overrun.Given as goal

abbrev pub invariant-loop-day : goal.invariant-loop-day
invariant-loop-day l = record {
  some : 1 ≤ l.day;
  before : (i y : ℕ) → IsDay l.problem i → i < l.day → y ≤ shift_count l.problem → IsWithinDemand l.problem (has_counted l.self) i y;
}
