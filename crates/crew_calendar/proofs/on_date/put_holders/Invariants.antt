use Rattle.std.proofs.Common.{◌≡◌, ◌++◌, ◌-◌}
use Rattle.std.specs.List.{flat_map, range_with_len}
use Rattle.crew_calendar.specs.OnDate.{holder_text}
use Rattle.crew_calendar.proofs.on_date.put_holders.Given as goal

abbrev pub invariant-loop-employee : goal.invariant-loop-employee
invariant-loop-employee l = l.out.items ≡ l.initial.out.items ++ flat_map (holder_text l.problem l.cells l.t l.x) (range_with_len 1 (l.employee - 1))
