use Rattle.std.proofs.Common.{ap}
use Rattle.std.proofs.lemmas.Result.{IfOk-weaker}
use Rattle.refutation_checker.specs.UnreadSplits.{UnreadSplit}
use Rattle.refutation_checker.proofs.Starts.{refused_entry, no_entry, entry, entered_somewhere}
use Rattle.refutation_checker.proofs.chunk_starts.enter.Goals as goal

pub returns-in-Err-Refused-clause-entered : goal.returns-in-Err-Refused-clause-entered
returns-in-Err-Refused-clause-entered c =
    refused_entry c.args.problem.now c.args.terms.goal c.args.terms.counts c.args.split.now c.args.walk.now c.args.walk.now c.split.inside.line.now c.in-Err-Refused.field-0-0 c.prove_limits.ensures
    (ap (λ (u : UnreadSplit). u.line) c.split.view_is) (rw c.in-Err-Refused.field-0-is at c.in-Err-Refused.ensures)

pub returns-in-Some-clause-state : goal.returns-in-Some-clause-state
returns-in-Some-clause-state c =
    IfOk-weaker c.enter_split.result _ _
    (λ entered goes. entered_somewhere c.args.problem.now c.args.walk.now c.enter_split.new.walk c.in-Some.p c.in-Some.x c.split.inside.in_second entered c.requires.state goes)
    c.enter_split.ensures.entered

pub returns-in-Some-clause-entered : goal.returns-in-Some-clause-entered
returns-in-Some-clause-entered c =
    IfOk-weaker c.enter_split.result _ _
    (λ entered goes. entry c.args.problem.now c.args.terms.goal c.args.terms.counts c.args.split.now c.args.walk.now c.enter_split.new.walk c.split.inside.line.now c.in-Ok.line c.in-Some.p c.in-Some.x c.split.inside.in_second entered c.prove_limits.ensures
    (ap (λ (u : UnreadSplit). u.line) c.split.view_is) (ap (λ (u : UnreadSplit). u.in_second) c.split.view_is) c.in-Ok.ensures c.in-Some.ensures goes)
    c.enter_split.ensures.entered

pub returns-in-None-clause-entered : goal.returns-in-None-clause-entered
returns-in-None-clause-entered c =
    no_entry c.args.problem.now c.args.terms.goal c.args.terms.counts c.args.split.now c.args.walk.now c.args.walk.now c.split.inside.line.now c.in-Ok.line c.prove_limits.ensures
    (ap (λ (u : UnreadSplit). u.line) c.split.view_is) c.in-Ok.ensures c.in-None.ensures
