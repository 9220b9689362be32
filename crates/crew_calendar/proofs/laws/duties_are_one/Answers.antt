use Rattle.crew_calendar.proofs.OneText.{one_duties}
use Rattle.crew_calendar.proofs.laws.duties_are_one.Goals as goal

pub returns : goal.returns
returns c = one_duties
