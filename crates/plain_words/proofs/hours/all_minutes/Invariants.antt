use Rattle.std.proofs.Common.{◌≡◌, ◌*◌, ◌≤◌}
use Rattle.std.specs.List.{range_with_len, sum_by}
use Rattle.plain_words.specs.Sentences.{day_minutes}
use Rattle.plain_words.proofs.hours.all_minutes.Given as goal

abbrev pub invariant-loop-i : goal.invariant-loop-i
invariant-loop-i l = record {
  total : l.sum ≡ sum_by (day_minutes l.problem l.is_most) (range_with_len 1 l.i);
  few : l.sum ≤ 48000000 * l.i;
}
