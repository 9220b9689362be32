use Rattle.std.proofs.Common.{◌≡◌, ◌++◌}
use Rattle.std.specs.List.{flat_map, range_with_len}
use Rattle.crew_calendar.specs.ContentLines.{content_text}
use Rattle.crew_calendar.specs.Events.{first_lines, events_on}
use Rattle.crew_calendar.proofs.Calendars.{calendar_from}
use Rattle.crew_calendar.proofs.events.duty_calendar.Given as goal

abbrev pub invariant-loop-t : goal.invariant-loop-t
invariant-loop-t l = l.out.items ≡ content_text (first_lines ++ flat_map (events_on l.problem l.roster.cells l.fn.date (calendar_from l.fn.date) l.employee) (range_with_len 0 l.t))
