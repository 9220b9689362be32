use Rattle.roster_print.proofs.Printed.{printed_is_spelled}
use Rattle.roster_print.proofs.laws.printed_is_spelled.Goals as goal

pub returns : goal.returns
returns c = printed_is_spelled
