use Rattle.roster_print.proofs.Spelling.{one_roster}
use Rattle.roster_print.proofs.laws.text_spells_one_roster.Goals as goal

pub returns : goal.returns
returns c = one_roster
