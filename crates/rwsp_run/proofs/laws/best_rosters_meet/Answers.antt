use Rattle.rwsp_run.proofs.Accepted.{best_rosters_meet}
use Rattle.rwsp_run.proofs.laws.best_rosters_meet.Goals as goal

pub returns : goal.returns
returns c = best_rosters_meet
