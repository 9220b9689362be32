use Rattle.std.proofs.Common.{◌≡◌, ◌-◌, ◌++◌, ap, ◌∙◌, arith}
use Rattle.std.specs.List.{flat_map, range_with_len}
use Rattle.rwsp_terms.specs.Instance.{shift_count}
use Rattle.crew_calendar.specs.OnDate.{symbol_line}
use Rattle.crew_calendar.proofs.Appended.{employee_more}
use Rattle.crew_calendar.proofs.on_date.put_shifts.Goals as goal

pub loop-x-preserved : goal.loop-x-preserved
loop-x-preserved c =
    employee_more (symbol_line c.args.problem.now c.args.cells.now c.args.t) c.loop-x.x c.args.out.now.items c.loop-x.out.items c.put_symbol.new.out.items
    c.loop-x.auto.x c.loop-x.invariant c.in_ok-put_symbol.ensures

pub returns : goal.returns
returns c =
    let P = c.args.problem.now in
    let all : c.loop-x.x - 1 ≡ shift_count P = omega arith in
    c.loop-x.invariant ∙ ap (λ n. c.args.out.now.items ++ flat_map (symbol_line P c.args.cells.now c.args.t) (range_with_len 1 n)) all
