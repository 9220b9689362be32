use Rattle.refutation_checker.proofs.Passing.{cause_of_own, cause_refuses}
use Rattle.refutation_checker.proofs.log_check.check_log.Goals as goal

pub returns-in-Ok-Some : goal.returns-in-Ok-Some
returns-in-Ok-Some c =
    let P = c.args.problem.now in
    let g = c.args.log.now in
    let why = c.in-Ok-Some.why in
    cause_refuses P g why c.prove_limits.ensures c.requires
    (cause_of_own P g c.opening.result.now c.in-Ok-Some.field-0 why c.in-Ok-Some.field-0-is c.opening.ensures c.in-Ok-Some.ensures.cause)
