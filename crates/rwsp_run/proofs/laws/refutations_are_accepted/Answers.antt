use Rattle.rwsp_run.proofs.Accepted.{refutations_accepted}
use Rattle.rwsp_run.proofs.laws.refutations_are_accepted.Goals as goal

pub returns : goal.returns
returns c = refutations_accepted
