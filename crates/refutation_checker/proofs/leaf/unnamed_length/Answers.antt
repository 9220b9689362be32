use Rattle.refutation_log.proofs.CitedRules.{off_cited, shift_cited}
use Rattle.refutation_checker.proofs.Lists.{same_outside}
use Rattle.refutation_checker.proofs.leaf.unnamed_length.Goals as goal

pub returns-then-x-eq0 : goal.returns-then-x-eq0
returns-then-x-eq0 c =
    same_outside _ _ c.args.named.now c.rules_outside.result (off_cited c.args.problem.now c.args.x.number c.if-x-eq0.true) c.rules_outside.ensures

pub returns-else-x-eq0 : goal.returns-else-x-eq0
returns-else-x-eq0 c =
    same_outside _ _ c.args.named.now c.rules_outside-else-x-eq0.result (shift_cited c.args.problem.now c.args.x c.if-x-eq0.false) c.rules_outside-else-x-eq0.ensures
