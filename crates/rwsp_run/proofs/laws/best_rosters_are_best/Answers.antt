use Rattle.rwsp_run.proofs.Accepted.{best_is_best}
use Rattle.rwsp_run.proofs.laws.best_rosters_are_best.Goals as goal

pub returns : goal.returns
returns c = best_is_best
