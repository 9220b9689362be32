use Rattle.crew_calendar.proofs.Sheets.{sheets_read}
use Rattle.crew_calendar.proofs.laws.sheets_are_read_back.Goals as goal

pub returns : goal.returns
returns c = sheets_read
