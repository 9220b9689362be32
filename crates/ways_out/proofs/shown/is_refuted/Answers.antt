use Rattle.ways_out.proofs.Helping.{accepted_refutes}
use Rattle.ways_out.proofs.shown.is_refuted.Goals as goal

pub returns-in-Ok : goal.returns-in-Ok
returns-in-Ok c = λ yes. accepted_refutes c.args.problem.now c.args.text.now c.in-Ok.ensures.0 c.in-Ok.ensures.1
