use Rattle.crew_calendar.proofs.OneText.{one_table}
use Rattle.crew_calendar.proofs.laws.tables_are_one.Goals as goal

pub returns : goal.returns
returns c = one_table
