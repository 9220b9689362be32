use Rattle.made_problems.proofs.Usual.{all_usual}
use Rattle.made_problems.proofs.laws.stints_are_usual.Goals as goal

pub returns : goal.returns
returns c = all_usual
