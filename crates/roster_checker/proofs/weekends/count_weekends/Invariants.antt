use Rattle.std.proofs.Common.{◌≡◌, ◌+◌, ◌*◌, ◌≤◌, ◌&&◌}
use Rattle.std.specs.Prelude.{count_by}
use Rattle.std.specs.List.{range_with_len}
use Rattle.refutation_terms.specs.FreeWeekends.{is_off_at}
use Rattle.roster_checker.proofs.weekends.count_weekends.Given as goal

abbrev pub invariant-loop-week : goal.invariant-loop-week
invariant-loop-week l = record {
  count : l.count ≡ count_by (λ i. is_off_at l.cells (i * 7 + 5) && is_off_at l.cells (i * 7 + 6)) (range_with_len 0 l.week);
  few : l.count ≤ l.week;
}
