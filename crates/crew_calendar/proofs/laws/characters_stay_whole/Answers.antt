use Rattle.crew_calendar.proofs.ReadBack.{characters_whole}
use Rattle.crew_calendar.proofs.laws.characters_stay_whole.Goals as goal

pub returns : goal.returns
returns c = characters_whole
