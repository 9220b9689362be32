use Rattle.std.proofs.Common.{subst}
use Rattle.refutation_checker.specs.UnreadSplits.{IsEntered}
use Rattle.refutation_checker.proofs.Starts.{into_more, into_idle, into_all}
use Rattle.refutation_checker.proofs.chunk_starts.walk_into.Goals as goal

pub returns-then-not-branch-clause-into : goal.returns-then-not-branch-clause-into
returns-then-not-branch-clause-into c =
    let P = c.args.problem.now in
    into_idle P c.args.terms.goal c.args.terms.counts c.args.start.now c.loop-split.walk c.enter.new.walk c.args.splits.now c.loop-split.split-index c.split-item.result c.loop-split-test.true c.split-item.is c.loop-split.invariant
    (subst (IsEntered P c.args.terms.goal c.args.terms.counts c.split-item.result c.loop-split.walk c.enter.new.walk) c.if-not-branch.true c.in_ok-enter.ensures.entered)

pub loop-split-preserved : goal.loop-split-preserved
loop-split-preserved c =
    let P = c.args.problem.now in
    into_more P c.args.terms.goal c.args.terms.counts c.args.start.now c.loop-split.walk c.enter.new.walk c.args.splits.now c.loop-split.split-index c.split-item.result c.loop-split-test.true c.split-item.is c.loop-split.invariant
    (c.in_ok-enter.ensures.state c.if-not-branch.false) (c.in_ok-enter.ensures.part c.if-not-branch.false)
    (subst (IsEntered P c.args.terms.goal c.args.terms.counts c.split-item.result c.loop-split.walk c.enter.new.walk) c.if-not-branch.false c.in_ok-enter.ensures.entered)

pub returns-clause-into : goal.returns-clause-into
returns-clause-into c = into_all c.args.problem.now c.args.terms.goal c.args.terms.counts c.args.start.now c.loop-split.walk c.args.splits.now c.loop-split.split-index c.loop-split-test.false c.loop-split.invariant
