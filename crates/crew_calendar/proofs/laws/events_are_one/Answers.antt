use Rattle.crew_calendar.proofs.OneEvents.{one_events}
use Rattle.crew_calendar.proofs.laws.events_are_one.Goals as goal

pub returns : goal.returns
returns c = one_events
