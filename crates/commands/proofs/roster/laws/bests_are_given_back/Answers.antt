use Rattle.commands.proofs.GivenBack.{bests_given_back}
use Rattle.commands.proofs.roster.laws.bests_are_given_back.Goals as goal

pub returns : goal.returns
returns c = bests_given_back
