use Rattle.commands.proofs.GivenBack.{staffs_given_back}
use Rattle.commands.proofs.roster.laws.staffs_are_given_back.Goals as goal

pub returns : goal.returns
returns c = staffs_given_back
