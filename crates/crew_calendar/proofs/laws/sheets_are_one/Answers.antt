use Rattle.crew_calendar.proofs.Sheets.{one_sheet}
use Rattle.crew_calendar.proofs.laws.sheets_are_one.Goals as goal

pub returns : goal.returns
returns c = one_sheet
