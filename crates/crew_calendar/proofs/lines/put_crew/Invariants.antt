use Rattle.std.proofs.Common.{◌≡◌, ◌++◌, ◌∷◌, ◌-◌}
use Rattle.std.specs.List.{flat_map, range_with_len}
use Rattle.rwsp_terms.specs.Instance.{name_of}
use Rattle.crew_calendar.specs.Crew.{symbol_on}
use Rattle.crew_calendar.proofs.lines.put_crew.Given as goal

abbrev pub invariant-loop-employee : goal.invariant-loop-employee
invariant-loop-employee l = l.out.items ≡ l.initial.out.items ++ flat_map (λ e. 32 ∷ name_of l.problem (symbol_on l.problem l.cells e l.t)) (range_with_len 1 (l.employee - 1))
