use Rattle.roster_page.proofs.OneRoster.{pages_show_one_roster}
use Rattle.roster_page.proofs.laws.pages_show_one_roster.Goals as goal

pub returns : goal.returns
returns c = pages_show_one_roster
