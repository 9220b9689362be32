use Rattle.std.proofs.Common.{◌∷◌, ◌++◌, [], map, ap, sym, append_assoc}
use Rattle.std.specs.List.{flat_map}
use Rattle.crew_calendar.specs.Crew.{employees}
use Rattle.crew_calendar.specs.Calendar.{date_text, weekday_text}
use Rattle.crew_calendar.specs.Csv.{field_text, next_text}
use Rattle.crew_calendar.specs.Sheet.{cell}
use Rattle.crew_calendar.proofs.Sheets.{record_put}
use Rattle.crew_calendar.proofs.sheet.put_sheet_day.Goals as goal

pub returns : goal.returns
returns c =
    let P = c.args.problem.now in
    let date = c.args.date in
    let names = map (cell P c.args.cells.now c.args.t) (employees P) in
    record_put c.args.out.now.items (field_text (date_text date) ++ next_text (weekday_text date)) c.put_dated.new.out.items c.put_cells.new.out.items c.extend_from_slice.new.self.items (cell P c.args.cells.now c.args.t) (employees P) (date_text date ∷ weekday_text date ∷ names)
    c.in_ok-put_dated.ensures c.in_ok-put_cells.ensures c.in_ok-extend_from_slice.ensures.items
    (ap (λ l. l ++ 13 ∷ 10 ∷ []) (sym (append_assoc (field_text (date_text date)) (next_text (weekday_text date)) (flat_map next_text names))))
