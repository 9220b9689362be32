use Rattle.roster_page.proofs.ReadBack.{names_are_read_back}
use Rattle.roster_page.proofs.laws.names_are_read_back.Goals as goal

pub returns : goal.returns
returns c = names_are_read_back
