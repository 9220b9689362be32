use Rattle.crew_calendar.proofs.CsvRead.{records_again}
use Rattle.crew_calendar.proofs.laws.records_are_read_back.Goals as goal

pub returns : goal.returns
returns c = records_again
