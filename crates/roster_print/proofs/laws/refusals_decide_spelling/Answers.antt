use Rattle.roster_print.proofs.Spelling.{refusals_decide}
use Rattle.roster_print.proofs.laws.refusals_decide_spelling.Goals as goal

pub returns : goal.returns
returns c = refusals_decide
