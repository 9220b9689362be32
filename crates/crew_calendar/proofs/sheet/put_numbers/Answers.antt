use Rattle.std.proofs.Common.{◌≡◌, ◌-◌, ◌++◌, ap, ◌∙◌, arith}
use Rattle.std.specs.List.{flat_map, range_with_len}
use Rattle.std.specs.Fmt.{decimal}
use Rattle.crew_calendar.specs.Csv.{next_text}
use Rattle.crew_calendar.proofs.Appended.{employee_more}
use Rattle.crew_calendar.proofs.sheet.put_numbers.Goals as goal

pub loop-employee-preserved : goal.loop-employee-preserved
loop-employee-preserved c =
    employee_more (λ e. next_text (decimal e)) c.loop-employee.employee c.args.out.now.items c.loop-employee.out.items c.put_next_number.new.out.items
    c.loop-employee.auto.employee c.loop-employee.invariant c.in_ok-put_next_number.ensures

pub returns : goal.returns
returns c =
    let all : c.loop-employee.employee - 1 ≡ c.args.problem.now.weeks = omega arith in
    c.loop-employee.invariant ∙ ap (λ n. c.args.out.now.items ++ flat_map (λ e. next_text (decimal e)) (range_with_len 1 n)) all
