use Rattle.rwsp_run.proofs.Accepted.{same_for_workers}
use Rattle.rwsp_run.proofs.laws.workers_make_no_difference.Goals as goal

pub returns : goal.returns
returns c = same_for_workers
