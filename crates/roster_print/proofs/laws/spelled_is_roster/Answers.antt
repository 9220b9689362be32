use Rattle.roster_print.proofs.Spelling.{spelled_is_roster}
use Rattle.roster_print.proofs.laws.spelled_is_roster.Goals as goal

pub returns : goal.returns
returns c = spelled_is_roster
