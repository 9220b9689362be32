use Rattle.std.proofs.Common.{◌≡◌, ◌≤◌}
use Rattle.std.specs.Prelude.{count_by}
use Rattle.std.specs.List.{range_with_len}
use Rattle.domain_store.specs.Store.{has_domain}
use Rattle.refutation_terms.specs.FewLeaf.{may_be_free}
use Rattle.domain_store.proofs.few.count_free.Given as goal

abbrev pub invariant-loop-week : goal.invariant-loop-week
invariant-loop-week l = record {
  count : l.count ≡ count_by (may_be_free (has_domain l.doms)) (range_with_len 0 l.week);
  few : l.count ≤ l.week;
}
