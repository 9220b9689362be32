use Rattle.refutation_log.proofs.HeaderLines.{opening_spelled}
use Rattle.refutation_log.proofs.header.opening_line.Goals as goal

pub returns-in-Ok : goal.returns-in-Ok
returns-in-Ok c = opening_spelled c.args.problem.now c.args.counts c.in-Some.bytes.now c.args.reader.now c.next.new.self c.in-Ok.opening c.in-Some.ensures.line.1 c.in-Ok.ensures
