use Rattle.std.proofs.Common.{◌≡◌, ◌*◌, pos, ◌≤ℤ◌}
use Rattle.std.specs.Int.{int_max}
use Rattle.std.specs.List.{range_with_len}
use Rattle.rwsp_terms.specs.Instance.{least}
use Rattle.refutation_terms.specs.Word.{int_sum_by}
use Rattle.domain_store.proofs.blocks.least_days.Given as goal

abbrev pub invariant-loop-i : goal.invariant-loop-i
invariant-loop-i l = record {
  sum : l.sum ≡ int_sum_by (λ j. int_max (pos 0) (least l.problem l.x.number j)) (range_with_len 1 l.i);
  some : pos 0 ≤ℤ l.sum;
  few : l.sum ≤ℤ pos (600 * l.i);
}
