use Rattle.crew_calendar.proofs.Standing.{follows_cycle}
use Rattle.crew_calendar.proofs.laws.employees_follow_the_cycle.Goals as goal

pub returns : goal.returns
returns c = follows_cycle
