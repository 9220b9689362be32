use Rattle.crew_calendar.proofs.ReadDates.{as_in_tables}
use Rattle.crew_calendar.proofs.laws.dates_are_as_in_tables.Goals as goal

pub returns : goal.returns
returns c = as_in_tables
