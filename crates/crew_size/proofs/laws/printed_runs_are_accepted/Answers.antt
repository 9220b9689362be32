use Rattle.crew_size.proofs.Decided.{printed_accepted}
use Rattle.crew_size.proofs.laws.printed_runs_are_accepted.Goals as goal

pub returns : goal.returns
returns c = printed_accepted
