use Rattle.std.proofs.lemmas.Result.{IfOk-weaker}
use Rattle.commands.proofs.Owned.{best_owned}
use Rattle.commands.proofs.best.job.Goals as goal

pub returns-clause-own : goal.returns-clause-own
returns-clause-own c = IfOk-weaker c.best.result _ _ (λ found h. best_owned c.args.problem.now c.args.effort.budget found c.requires.weekly h) c.best.ensures.found
