use Rattle.std.proofs.Common.{◌≡◌, ◌++◌}
use Rattle.std.specs.List.{flat_map, range_with_len}
use Rattle.roster_page.specs.PageText.{demand_cell}
use Rattle.roster_page.proofs.demand.put_demand_cells.Given as goal

abbrev pub invariant-loop-day : goal.invariant-loop-day
invariant-loop-day l = l.out.items ≡ l.fn.out.items ++ flat_map (demand_cell l.problem l.cells l.place) (range_with_len 0 l.day)
