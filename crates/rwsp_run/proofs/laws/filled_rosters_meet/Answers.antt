use Rattle.rwsp_run.proofs.Accepted.{filled_rosters_meet}
use Rattle.rwsp_run.proofs.laws.filled_rosters_meet.Goals as goal

pub returns : goal.returns
returns c = filled_rosters_meet
