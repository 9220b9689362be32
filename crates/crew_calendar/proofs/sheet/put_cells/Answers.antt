use Rattle.std.proofs.Common.{◌≡◌, ◌-◌, ◌++◌, ap, ◌∙◌, arith}
use Rattle.std.specs.List.{flat_map, range_with_len}
use Rattle.rwsp_terms.specs.Instance.{name_of}
use Rattle.crew_calendar.specs.Csv.{next_text}
use Rattle.crew_calendar.specs.Sheet.{cell}
use Rattle.crew_calendar.proofs.Appended.{employee_more}
use Rattle.crew_calendar.proofs.Standing.{on_symbol}
use Rattle.crew_calendar.proofs.sheet.put_cells.Goals as goal

pub name-requires : goal.name-requires
name-requires c = on_symbol c.args.problem.now c.args.cells.now c.loop-employee.employee c.args.t _ c.requires.roster c.symbol_on.ensures

pub loop-employee-preserved : goal.loop-employee-preserved
loop-employee-preserved c =
    let P = c.args.problem.now in
    let old = c.loop-employee.out.items in
    employee_more (λ e. next_text (cell P c.args.cells.now c.args.t e)) c.loop-employee.employee c.args.out.now.items old c.put_next_field.new.out.items
    c.loop-employee.auto.employee c.loop-employee.invariant
    (c.in_ok-put_next_field.ensures ∙ ap (λ name. old ++ next_text name) (c.name.ensures ∙ ap (λ x. name_of P x) c.symbol_on.ensures))

pub returns : goal.returns
returns c =
    let P = c.args.problem.now in
    let all : c.loop-employee.employee - 1 ≡ P.weeks = omega arith in
    c.loop-employee.invariant ∙ ap (λ n. c.args.out.now.items ++ flat_map (λ e. next_text (cell P c.args.cells.now c.args.t e)) (range_with_len 1 n)) all
