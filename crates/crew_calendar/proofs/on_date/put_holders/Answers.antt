use Rattle.std.proofs.Common.{◌≡◌, ◌-◌, ◌++◌, ap, ◌∙◌, arith}
use Rattle.std.specs.List.{flat_map, range_with_len}
use Rattle.crew_calendar.specs.OnDate.{holder_text}
use Rattle.crew_calendar.proofs.Appended.{employee_more}
use Rattle.crew_calendar.proofs.on_date.put_holders.Goals as goal

pub loop-employee-preserved : goal.loop-employee-preserved
loop-employee-preserved c =
    employee_more (holder_text c.args.problem.now c.args.cells.now c.args.t c.args.x) c.loop-employee.employee c.args.out.now.items c.loop-employee.out.items c.put_holder.new.out.items
    c.loop-employee.auto.employee c.loop-employee.invariant c.in_ok-put_holder.ensures

pub returns : goal.returns
returns c =
    let P = c.args.problem.now in
    let all : c.loop-employee.employee - 1 ≡ P.weeks = omega arith in
    c.loop-employee.invariant ∙ ap (λ n. c.args.out.now.items ++ flat_map (holder_text P c.args.cells.now c.args.t c.args.x) (range_with_len 1 n)) all
