use Rattle.std.proofs.Common.{◌≡◌, ◌++◌, map}
use Rattle.std.specs.List.{range_with_len}
use Rattle.crew_calendar.specs.Csv.{record_text, records_text}
use Rattle.crew_calendar.specs.Sheet.{head_cells, day_cells}
use Rattle.crew_calendar.proofs.Calendars.{calendar_from}
use Rattle.crew_calendar.proofs.sheet.crew_sheet.Given as goal

abbrev pub invariant-loop-t : goal.invariant-loop-t
invariant-loop-t l = l.out.items ≡ record_text (head_cells l.problem) ++ records_text (map (day_cells l.problem l.roster.cells (calendar_from l.date)) (range_with_len 0 l.t))
