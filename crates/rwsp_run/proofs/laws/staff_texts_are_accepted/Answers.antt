use Rattle.rwsp_run.proofs.Accepted.{staff_accepted}
use Rattle.rwsp_run.proofs.laws.staff_texts_are_accepted.Goals as goal

pub returns : goal.returns
returns c = staff_accepted
