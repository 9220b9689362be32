use Rattle.refutation_checker.proofs.SomeVerdict.{some_verdict}
use Rattle.refutation_checker.proofs.laws.texts_have_a_verdict.Goals as goal

pub returns : goal.returns
returns c = some_verdict
