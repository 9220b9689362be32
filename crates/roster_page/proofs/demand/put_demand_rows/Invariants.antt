use Rattle.std.proofs.Common.{◌≡◌, ◌++◌}
use Rattle.std.specs.List.{flat_map, range_with_len}
use Rattle.roster_page.specs.PageText.{demand_row}
use Rattle.roster_page.proofs.demand.put_demand_rows.Given as goal

abbrev pub invariant-loop-place : goal.invariant-loop-place
invariant-loop-place l = l.out.items ≡ l.fn.out.items ++ flat_map (demand_row l.problem l.cells) (range_with_len 0 l.place)
