use Rattle.rwsp_run.proofs.Accepted.{rosters_meet}
use Rattle.rwsp_run.proofs.laws.rosters_meet.Goals as goal

pub returns : goal.returns
returns c = rosters_meet
