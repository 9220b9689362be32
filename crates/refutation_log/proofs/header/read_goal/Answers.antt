use Rattle.refutation_log.proofs.HeaderTexts.{goal_answered}
use Rattle.refutation_log.proofs.header.read_goal.Goals as goal

pub returns-in-Some : goal.returns-in-Some
returns-in-Some c = goal_answered c.args.problem.now _ c.in-Some.body.now _ c.prove_limits.ensures c.in-Some.ensures c.goal_of.ensures
