use Rattle.std.proofs.Common.{◌≡◌, ◌+◌, ◌-◌, ◌*◌, ◌≤◌}
use Rattle.std.specs.Prelude.{count_by}
use Rattle.std.specs.List.{range_with_len}
use Rattle.refutation_terms.specs.DayLeaf.{is_only}
use Rattle.domain_store.specs.Store.{has_domain}
use Rattle.domain_store.proofs.day.count_fixed.Given as goal

abbrev pub invariant-loop-week : goal.invariant-loop-week
invariant-loop-week l = record {
  count : l.count ≡ count_by (λ i. is_only l.problem (has_domain l.doms) (i * l.problem.days + (l.day - 1)) l.x.number) (range_with_len 0 l.week);
  few : l.count ≤ l.week;
}
