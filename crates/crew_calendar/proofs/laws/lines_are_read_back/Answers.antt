use Rattle.crew_calendar.proofs.ReadBack.{lines_read}
use Rattle.crew_calendar.proofs.laws.lines_are_read_back.Goals as goal

pub returns : goal.returns
returns c = lines_read
