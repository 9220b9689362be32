use Rattle.crew_calendar.proofs.EventsRead.{events_read}
use Rattle.crew_calendar.proofs.laws.events_are_read_back.Goals as goal

pub returns : goal.returns
returns c = events_read
