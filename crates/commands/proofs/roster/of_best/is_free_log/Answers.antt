use Rattle.commands.proofs.ReadBest.{goal_decides, not_free}
use Rattle.commands.proofs.roster.of_best.is_free_log.Goals as goal

pub returns-in-Ok : goal.returns-in-Ok
returns-in-Ok c =
    goal_decides c.args.problem.now c.args.goal c.args.bytes.now c.in-Ok.log c.has_goal.result c.prove_limits.ensures c.in-Ok.ensures c.has_goal.ensures

pub returns-in-Err-Refused : goal.returns-in-Err-Refused
returns-in-Err-Refused c =
    not_free c.args.problem.now c.args.goal c.args.bytes.now _ c.prove_limits.ensures (rw c.in-Err-Refused.field-0-is at c.in-Err-Refused.ensures)
