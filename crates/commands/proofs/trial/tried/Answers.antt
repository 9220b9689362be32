use Rattle.std.proofs.lemmas.Result.{IfOk-weaker}
use Rattle.commands.proofs.Tried.{tried_as_planned}
use Rattle.commands.proofs.trial.tried.Goals as goal

pub returns : goal.returns
returns g c = IfOk-weaker c.plan_roster.result _ _ (λ found h. tried_as_planned c.args.number c.args.weeks c.args.problem.now found c.hidden_rosters_meet.ensures c.requires.weeks c.requires.generated h) c.plan_roster.ensures.planned
