use Rattle.crew_size.proofs.Decided.{accepted_decide}
use Rattle.commands.proofs.Refusals.{names_its_own}
use Rattle.commands.proofs.check_staff.job.Goals as goal

pub returns-in-Ok-clause-says : goal.returns-in-Ok-clause-says
returns-in-Ok-clause-says g c =
    let accepted = c.in-Ok.ensures in
    (accepted, accepted_decide c.args.problem.now c.args.bytes.now c.in-Ok.staffed accepted)

pub returns-in-Err-Refused-clause-own : goal.returns-in-Err-Refused-clause-own
returns-in-Err-Refused-clause-own g c =
    let refused = c.in-Err-Refused in
    names_its_own c.args.problem.now c.args.bytes.now refused.why (rw refused.field-0-is at refused.ensures)
