use Rattle.crew_calendar.proofs.OneDate.{one_on}
use Rattle.crew_calendar.proofs.laws.dates_have_one_text.Goals as goal

pub returns : goal.returns
returns c = one_on
