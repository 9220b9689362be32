use Rattle.roster_print.proofs.Printed.{printed_is_short}
use Rattle.roster_print.proofs.laws.printed_is_short.Goals as goal

pub returns : goal.returns
returns c = printed_is_short
