use Rattle.std.proofs.Common.{ℕ, ◌<◌, ◌≤◌}
use Rattle.rwsp_terms.specs.Instance.{shift_count, IsDay}
use Rattle.domain_store.specs.Store.{has_domain}
use Rattle.propagators.specs.Days.{TakesNone}
use Rattle.propagators.proofs.day_cut.first_cut.Given as goal

abbrev pub invariant-loop-day : goal.invariant-loop-day
invariant-loop-day l = record {
  some : 1 ≤ l.day;
  before : (j z : ℕ) → IsDay l.problem j → j < l.day → z ≤ shift_count l.problem → TakesNone l.problem (has_domain l.doms) j z;
}
