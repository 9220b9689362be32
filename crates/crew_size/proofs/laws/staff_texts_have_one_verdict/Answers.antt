use Rattle.crew_size.proofs.OneVerdict.{one_verdict}
use Rattle.crew_size.proofs.laws.staff_texts_have_one_verdict.Goals as goal

pub returns : goal.returns
returns c = one_verdict
