-- The law is proved in SomeVerdict.antt.
use Rattle.crew_checker.proofs.SomeVerdict.{some_staff_verdict}
use Rattle.crew_checker.proofs.laws.staff_texts_have_a_verdict.Goals as goal

pub returns : goal.returns
returns c = some_staff_verdict
