use Rattle.rwsp_model.proofs.Limits.{valid_keeps, keeps_valid}
use Rattle.rwsp_model.proofs.laws.valid_instances_keep_limits.Goals as goal

pub returns : goal.returns
returns c = λ P. (valid_keeps P, keeps_valid P)
