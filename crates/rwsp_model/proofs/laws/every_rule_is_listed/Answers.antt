use Rattle.rwsp_model.proofs.Numbering.{listed}
use Rattle.rwsp_model.proofs.laws.every_rule_is_listed.Goals as goal

pub returns : goal.returns
returns c = listed
