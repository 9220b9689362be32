use Rattle.refutation_log.proofs.HeaderTexts.{rules_answered}
use Rattle.refutation_log.proofs.header.read_rules.Goals as goal
use Rattle.std.proofs.lemmas.Result.{IfOk-weaker}

pub returns-in-Some : goal.returns-in-Some
returns-in-Some c = IfOk-weaker c.rules_of.result _ _ (λ o h. rules_answered c.args.problem.now c.args.bytes.now c.in-Some.body.now o c.prove_limits.ensures c.in-Some.ensures h) c.rules_of.ensures
