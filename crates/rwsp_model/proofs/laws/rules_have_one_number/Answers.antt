use Rattle.rwsp_model.proofs.Numbering.{one_number}
use Rattle.rwsp_model.proofs.laws.rules_have_one_number.Goals as goal

pub returns : goal.returns
returns c = one_number
