use Rattle.commands.proofs.Logs.{accepted}
use Rattle.commands.proofs.Refusals.{printable}
use Rattle.commands.proofs.check.checked.Goals as goal

pub returns-in-Ok-clause-says : goal.returns-in-Ok-clause-says
returns-in-Ok-clause-says g c =
    let passed = c.in-Ok.passed in
    accepted c.args.problem.now c.args.log.kind c.args.log.bytes.now passed c.in-Ok.ensures

pub returns-in-Err-Refused-clause-own : goal.returns-in-Err-Refused-clause-own
returns-in-Err-Refused-clause-own g c =
    let refused = c.in-Err-Refused in
    printable c.args.problem.now c.args.log.kind c.args.log.bytes.now refused.why (rw refused.field-0-is at refused.ensures)
