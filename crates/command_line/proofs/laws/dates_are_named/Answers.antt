use Rattle.crew_calendar.proofs.DateWords.{date_found, date_only}
use Rattle.command_line.proofs.laws.dates_are_named.Goals as goal

pub returns : goal.returns
returns c word date = (date_found word date, date_only word date)
