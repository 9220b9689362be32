use Rattle.crew_calendar.proofs.ReadBack.{rows_short}
use Rattle.crew_calendar.proofs.laws.rows_are_short.Goals as goal

pub returns : goal.returns
returns c = rows_short
