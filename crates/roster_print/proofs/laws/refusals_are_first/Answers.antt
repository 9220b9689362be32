use Rattle.roster_print.proofs.FirstFailures.{refusals_are_first}
use Rattle.roster_print.proofs.laws.refusals_are_first.Goals as goal

pub returns : goal.returns
returns c = refusals_are_first
