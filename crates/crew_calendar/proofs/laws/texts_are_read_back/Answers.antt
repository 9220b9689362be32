use Rattle.crew_calendar.proofs.ReadBack.{texts_read}
use Rattle.crew_calendar.proofs.laws.texts_are_read_back.Goals as goal

pub returns : goal.returns
returns c = texts_read
