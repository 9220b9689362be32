use Rattle.std.proofs.Common.{◌≡◌, ◌++◌}
use Rattle.std.specs.List.{flat_map, range_with_len}
use Rattle.made_problems.specs.Rested.{shift_at, too_close}
use Rattle.made_problems.proofs.rested.put_sequences_of.Given as goal

abbrev pub invariant-loop-second : goal.invariant-loop-second
invariant-loop-second l =
    l.out.items ≡ l.fn.out.items ++ flat_map (λ j. too_close l.problem l.days l.minutes (shift_at l.first) (shift_at j)) (range_with_len 0 l.second)
