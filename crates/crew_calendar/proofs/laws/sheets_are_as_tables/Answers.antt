use Rattle.crew_calendar.proofs.Sheets.{as_tables}
use Rattle.crew_calendar.proofs.laws.sheets_are_as_tables.Goals as goal

pub returns : goal.returns
returns c = as_tables
