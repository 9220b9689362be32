use Rattle.commands.proofs.GivenBack.{shown_rosters_stand}
use Rattle.commands.proofs.roster.laws.shown_rosters_stand.Goals as goal

pub returns : goal.returns
returns c = shown_rosters_stand
