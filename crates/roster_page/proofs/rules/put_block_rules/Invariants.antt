use Rattle.std.proofs.Common.{◌≡◌, ◌++◌}
use Rattle.std.specs.List.{flat_map, range_with_len}
use Rattle.roster_page.specs.PageText.{block_rule}
use Rattle.roster_page.proofs.rules.put_block_rules.Given as goal

abbrev pub invariant-loop-place : goal.invariant-loop-place
invariant-loop-place l = l.out.items ≡ l.fn.out.items ++ flat_map (block_rule l.problem) (range_with_len 0 l.place)
