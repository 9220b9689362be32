use Rattle.std.proofs.Common.{◌≡◌, ◌*◌, ◌≤◌}
use Rattle.std.specs.List.{range_with_len, sum_by}
use Rattle.plain_words.specs.Sentences.{demanded_minutes}
use Rattle.plain_words.proofs.hours.day_minutes.Given as goal

abbrev pub invariant-loop-place : goal.invariant-loop-place
invariant-loop-place l = record {
  total : l.sum ≡ sum_by (demanded_minutes l.problem l.is_most l.day) (range_with_len 1 l.place);
  few : l.sum ≤ 6000000 * l.place;
}
