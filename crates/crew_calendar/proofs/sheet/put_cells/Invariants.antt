use Rattle.std.proofs.Common.{◌≡◌, ◌++◌, ◌-◌}
use Rattle.std.specs.List.{flat_map, range_with_len}
use Rattle.crew_calendar.specs.Csv.{next_text}
use Rattle.crew_calendar.specs.Sheet.{cell}
use Rattle.crew_calendar.proofs.sheet.put_cells.Given as goal

abbrev pub invariant-loop-employee : goal.invariant-loop-employee
invariant-loop-employee l = l.out.items ≡ l.initial.out.items ++ flat_map (λ e. next_text (cell l.problem l.cells l.t e)) (range_with_len 1 (l.employee - 1))
