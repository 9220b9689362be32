use Rattle.rwsp_run.proofs.Accepted.{fill_logs_accepted}
use Rattle.rwsp_run.proofs.laws.fill_logs_are_accepted.Goals as goal

pub returns : goal.returns
returns c = fill_logs_accepted
