use Rattle.std.proofs.Common.{subst}
use Rattle.domain_store.specs.Store.{has_domain}
use Rattle.refutation_checker.specs.LineVerdicts.{PlainCause}
use Rattle.refutation_checker.specs.LineTexts.{Judging}
use Rattle.refutation_checker.proofs.LineJudging.{plain_is_cause}
use Rattle.refutation_checker.proofs.judge.Judge.line_refusal.Goals as goal

pub returns-in-Some-clause-cause : goal.returns-in-Some-clause-cause
returns-in-Some-clause-cause c =
    let D = has_domain c.args.doms.now in
    let line = c.args.line.now in
    let why = c.in-Some.why in
    plain_is_cause c.args.self.now.problem c.args.self.now.goal c.args.self.now.named D c.args.number line why
    (subst (λ (j : Judging). PlainCause j.problem j.goal j.named D c.args.number line why) c.self.view_is (rw c.in-Some.is at c.plain_refusal.ensures))
