use Rattle.std.proofs.Common.{◌≡◌}
use Rattle.crew_calendar.specs.Texts.{duties_text}
use Rattle.crew_calendar.proofs.Calendars.{calendar_from}
use Rattle.crew_calendar.proofs.duty_lines.duties.Given as goal

abbrev pub invariant-loop-t : goal.invariant-loop-t
invariant-loop-t l = l.out.items ≡ duties_text l.problem l.roster.cells (calendar_from l.date) l.employee l.t
