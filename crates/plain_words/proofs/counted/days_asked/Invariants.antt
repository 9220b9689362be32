use Rattle.std.proofs.Common.{◌≡◌, ◌*◌, ◌≤◌}
use Rattle.std.specs.List.{range_with_len, sum_by}
use Rattle.plain_words.specs.Counting.{asked_on}
use Rattle.plain_words.proofs.counted.days_asked.Given as goal

abbrev pub invariant-loop-i : goal.invariant-loop-i
invariant-loop-i l = record {
  total : l.sum ≡ sum_by (asked_on l.problem l.what) (range_with_len 1 l.i);
  few : l.sum ≤ 5400 * l.i;
}
