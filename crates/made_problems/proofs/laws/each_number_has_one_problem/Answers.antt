use Rattle.made_problems.proofs.OneProblem.{one_problem}
use Rattle.made_problems.proofs.laws.each_number_has_one_problem.Goals as goal

pub returns : goal.returns
returns c = one_problem
