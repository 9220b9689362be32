use Rattle.crew_calendar.proofs.Standing.{is_clean}
use Rattle.crew_calendar.proofs.laws.employees_keep_the_rules.Goals as goal

pub returns : goal.returns
returns c = is_clean
