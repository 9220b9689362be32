use Rattle.crew_calendar.proofs.Standing.{goes_round}
use Rattle.crew_calendar.proofs.laws.employees_go_round.Goals as goal

pub returns : goal.returns
returns c = goes_round
