use Rattle.refutation_terms.proofs.LineTables.{some_cells}
use Rattle.crew_calendar.proofs.Rounds.{is_staffed}
use Rattle.crew_calendar.proofs.laws.demand_is_met_daily.Goals as goal

pub returns : goal.returns
returns c P s some meets = is_staffed P s some (some_cells P.weeks P.days some) meets
