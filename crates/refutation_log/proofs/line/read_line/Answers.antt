use Rattle.refutation_log.proofs.LineTexts.{line_answered, no_feed_no_line}
use Rattle.refutation_log.proofs.line.read_line.Goals as goal

pub returns-in-Some : goal.returns-in-Some
returns-in-Some c = line_answered c.args.problem.now c.args.terms.goal c.args.terms.counts _ c.in-Some.body.now _ c.prove_limits.ensures c.in-Some.ensures c.read_body.ensures

pub returns-in-None : goal.returns-in-None
returns-in-None c = no_feed_no_line c.args.problem.now c.args.terms.goal c.args.terms.counts _ c.in-None.ensures
