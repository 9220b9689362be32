use Rattle.std.proofs.Common.{◌≡◌, ◌-◌, ◌∷◌, ◌++◌, ap, ◌∙◌, arith}
use Rattle.std.specs.List.{flat_map, range_with_len}
use Rattle.rwsp_terms.specs.Instance.{name_of}
use Rattle.crew_calendar.specs.Crew.{symbol_on}
use Rattle.crew_calendar.proofs.Appended.{employee_more}
use Rattle.crew_calendar.proofs.Standing.{on_symbol}
use Rattle.crew_calendar.proofs.lines.put_crew.Goals as goal

pub put_name-requires : goal.put_name-requires
put_name-requires c = on_symbol c.args.problem.now c.args.cells.now c.loop-employee.employee c.args.t _ c.requires.roster c.symbol_on.ensures

pub loop-employee-preserved : goal.loop-employee-preserved
loop-employee-preserved c =
    employee_more (λ e. 32 ∷ name_of c.args.problem.now (symbol_on c.args.problem.now c.args.cells.now e c.args.t)) c.loop-employee.employee c.args.out.now.items c.loop-employee.out.items c.put_name.new.out.items
    c.loop-employee.auto.employee c.loop-employee.invariant
    (c.in_ok-put_name.ensures ∙ ap (λ x. c.loop-employee.out.items ++ 32 ∷ name_of c.args.problem.now x) c.symbol_on.ensures)

pub returns : goal.returns
returns c =
    let P = c.args.problem.now in
    let all : c.loop-employee.employee - 1 ≡ P.weeks = omega arith in
    c.loop-employee.invariant ∙ ap (λ n. c.args.out.now.items ++ flat_map (λ e. 32 ∷ name_of P (symbol_on P c.args.cells.now e c.args.t)) (range_with_len 1 n)) all
