use Rattle.made_problems.proofs.Meeting.{hidden_meets}
use Rattle.made_problems.proofs.laws.hidden_rosters_meet.Goals as goal

pub returns : goal.returns
returns c = hidden_meets
