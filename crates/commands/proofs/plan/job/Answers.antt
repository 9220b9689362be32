use Rattle.std.proofs.lemmas.Result.{IfOk-weaker}
use Rattle.commands.proofs.Owned.{plan_owned}
use Rattle.commands.proofs.plan.job.Goals as goal

pub returns-clause-own : goal.returns-clause-own
returns-clause-own g c = IfOk-weaker c.plan_roster.result _ _ (λ found h. plan_owned c.args.problem.now c.args.effort.budget found h) c.plan_roster.ensures.planned
