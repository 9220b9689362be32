use Rattle.std.proofs.Common.{◌≡◌, ◌*◌, ◌<◌, pos, neg_ℤ, ◌≤ℤ◌}
use Rattle.std.specs.Int.{int_min}
use Rattle.std.specs.List.{range_with_len}
use Rattle.rwsp_terms.specs.Instance.{greatest}
use Rattle.refutation_terms.specs.Word.{int_sum_by}
use Rattle.domain_store.proofs.blocks.most_days.Given as goal

abbrev pub invariant-loop-i : goal.invariant-loop-i
invariant-loop-i l = record {
  sum : l.sum ≡ int_sum_by (λ j. int_min (pos l.problem.weeks) (greatest l.problem l.x.number j)) (range_with_len 1 l.i);
  above : neg_ℤ (pos (4800 * l.i)) ≤ℤ l.sum;
  below : l.sum ≤ℤ pos (600 * l.i);
  shift : 0 < l.x.number → pos 0 ≤ℤ l.sum;
}
