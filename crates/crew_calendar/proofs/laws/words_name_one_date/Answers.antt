use Rattle.crew_calendar.proofs.DateWords.{one_date}
use Rattle.crew_calendar.proofs.laws.words_name_one_date.Goals as goal

pub returns : goal.returns
returns c = one_date
