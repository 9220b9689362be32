use Rattle.commands.proofs.GivenBack.{staffs_spell_none}
use Rattle.commands.proofs.roster.laws.staffs_spell_no_roster.Goals as goal

pub returns : goal.returns
returns c = staffs_spell_none
