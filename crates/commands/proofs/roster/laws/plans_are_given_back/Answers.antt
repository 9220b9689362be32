use Rattle.commands.proofs.GivenBack.{plans_given_back}
use Rattle.commands.proofs.roster.laws.plans_are_given_back.Goals as goal

pub returns : goal.returns
returns c = plans_given_back
