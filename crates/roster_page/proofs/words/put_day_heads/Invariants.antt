use Rattle.std.proofs.Common.{◌≡◌, ◌++◌}
use Rattle.std.specs.List.{flat_map, range_with_len}
use Rattle.roster_page.specs.PageText.{day_head}
use Rattle.roster_page.proofs.words.put_day_heads.Given as goal

abbrev pub invariant-loop-day : goal.invariant-loop-day
invariant-loop-day l = l.out.items ≡ l.fn.out.items ++ flat_map day_head (range_with_len 0 l.day)
