use Rattle.crew_calendar.proofs.EventsRead.{duties_listed}
use Rattle.crew_calendar.proofs.laws.duties_are_listed.Goals as goal

pub returns : goal.returns
returns c = duties_listed
