use Rattle.rwsp_run.proofs.Accepted.{best_proofs_accepted}
use Rattle.rwsp_run.proofs.laws.best_proofs_are_accepted.Goals as goal

pub returns : goal.returns
returns c = best_proofs_accepted
