use Rattle.std.proofs.Common.{◌≡◌, ℕ, ◌<◌, true}
use Rattle.refutation_terms.specs.Tree.{is_idle}
use Rattle.domain_store.specs.Store.{has_domain}
use Rattle.propagators.specs.Days.{position_in_week}
use Rattle.propagators.proofs.day_cut.place_beside.Given as goal

abbrev pub invariant-loop-week : goal.invariant-loop-week
invariant-loop-week l = (i : ℕ) → i < l.week → is_idle l.problem (has_domain l.doms) (position_in_week l.problem i l.day) l.x.number ≡ true
