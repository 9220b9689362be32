use Rattle.std.proofs.Common.{◌≡◌}
use Rattle.crew_calendar.specs.Texts.{table_text}
use Rattle.crew_calendar.proofs.Calendars.{calendar_from}
use Rattle.crew_calendar.proofs.lines.day_lines.Given as goal

abbrev pub invariant-loop-t : goal.invariant-loop-t
invariant-loop-t l = l.out.items ≡ table_text l.problem l.cells (calendar_from l.date) l.t
