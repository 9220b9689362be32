use Rattle.std.proofs.Common.{◌≡◌, ◌+◌, ◌-◌, ◌*◌, ◌≤◌, ◌==◌}
use Rattle.std.specs.Prelude.{count_by, slice_index_or}
use Rattle.std.specs.List.{range_with_len}
use Rattle.rwsp_terms.specs.Instance.{off_symbol}
use Rattle.made_problems.proofs.counts.count_on.Given as goal

abbrev pub invariant-loop-week : goal.invariant-loop-week
invariant-loop-week l = record {
  count : l.count ≡ count_by (λ i. (slice_index_or l.cells (i * 7 + (l.day - 1)) off_symbol).number == l.x.number) (range_with_len 0 l.week);
  few : l.count ≤ l.week;
}
