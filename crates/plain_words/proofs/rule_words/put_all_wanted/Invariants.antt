use Rattle.std.proofs.Common.{◌≡◌, ◌++◌}
use Rattle.std.specs.List.{flat_map, range_with_len}
use Rattle.plain_words.specs.RuleWords.{wanted_words}
use Rattle.plain_words.proofs.rule_words.put_all_wanted.Given as goal

abbrev pub invariant-loop-place : goal.invariant-loop-place
invariant-loop-place l = l.out.items ≡ l.fn.out.items ++ flat_map (wanted_words l.problem l.day) (range_with_len 1 l.place)
