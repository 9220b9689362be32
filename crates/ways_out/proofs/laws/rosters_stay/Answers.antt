use Rattle.ways_out.proofs.Staying.{rosters_stay, rosters_stay_further}
use Rattle.ways_out.proofs.laws.rosters_stay.Goals as goal

pub returns-clause-loosened : goal.returns-clause-loosened
returns-clause-loosened c = rosters_stay

pub returns-clause-further : goal.returns-clause-further
returns-clause-further c = rosters_stay_further
