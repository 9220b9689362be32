use Rattle.std.proofs.Common.{ℕ, ◌<◌}
use Rattle.domain_store.specs.Store.{has_domain}
use Rattle.propagators.specs.Days.{TakesNone}
use Rattle.propagators.proofs.day_cut.cut_on_day.Given as goal

abbrev pub invariant-loop-number : goal.invariant-loop-number
invariant-loop-number l = (z : ℕ) → z < l.number → TakesNone l.problem (has_domain l.doms) l.day z
