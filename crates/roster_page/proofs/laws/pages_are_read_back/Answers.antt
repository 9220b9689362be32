use Rattle.roster_page.proofs.PageRead.{pages_are_read_back}
use Rattle.roster_page.proofs.laws.pages_are_read_back.Goals as goal

pub returns : goal.returns
returns c = pages_are_read_back
