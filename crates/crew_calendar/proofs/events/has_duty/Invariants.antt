use Rattle.crew_calendar.specs.Events.{HasNoDuty}
use Rattle.crew_calendar.proofs.events.has_duty.Given as goal

abbrev pub invariant-loop-t : goal.invariant-loop-t
invariant-loop-t l = HasNoDuty l.problem l.roster.cells l.t l.employee
