use Rattle.rwsp_run.proofs.Accepted.{reductions_accepted}
use Rattle.rwsp_run.proofs.laws.reductions_are_accepted.Goals as goal

pub returns : goal.returns
returns c = reductions_accepted
