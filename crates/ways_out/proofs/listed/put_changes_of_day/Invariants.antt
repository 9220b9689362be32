use Rattle.std.proofs.Common.{◌≡◌, ◌++◌}
use Rattle.std.specs.List.{flat_map, range_with_len}
use Rattle.ways_out.specs.Changes.{demand_changes}
use Rattle.ways_out.proofs.listed.put_changes_of_day.Given as goal

abbrev pub invariant-loop-place : goal.invariant-loop-place
invariant-loop-place l = l.out.items ≡ l.fn.out.items ++ flat_map (demand_changes l.day) (range_with_len 1 l.place)
