use Rattle.std.proofs.Common.{◌≡◌, ◌++◌, ◌-◌}
use Rattle.std.specs.List.{flat_map, range_with_len}
use Rattle.crew_calendar.specs.OnDate.{symbol_line}
use Rattle.crew_calendar.proofs.on_date.put_shifts.Given as goal

abbrev pub invariant-loop-x : goal.invariant-loop-x
invariant-loop-x l = l.out.items ≡ l.initial.out.items ++ flat_map (symbol_line l.problem l.cells l.t) (range_with_len 1 (l.x - 1))
