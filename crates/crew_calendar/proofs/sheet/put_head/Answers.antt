use Rattle.std.proofs.Common.{refl}
use Rattle.std.specs.Prelude.{codes}
use Rattle.std.specs.Fmt.{decimal}
use Rattle.crew_calendar.specs.Crew.{employees}
use Rattle.crew_calendar.specs.Sheet.{head_cells}
use Rattle.crew_calendar.proofs.Sheets.{record_put}
use Rattle.crew_calendar.proofs.sheet.put_head.Goals as goal

pub returns : goal.returns
returns c =
    let P = c.args.problem.now in
    record_put c.args.out.now.items (codes "date,weekday") c.extend_from_slice.new.self.items c.put_numbers.new.out.items c.extend_from_slice-2.new.self.items decimal (employees P) (head_cells P)
    c.in_ok-extend_from_slice.ensures.items c.in_ok-put_numbers.ensures c.in_ok-extend_from_slice-2.ensures.items refl
