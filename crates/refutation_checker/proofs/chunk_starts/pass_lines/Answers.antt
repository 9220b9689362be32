use Rattle.std.proofs.Common.{◌+◌, None, subst}
use Rattle.refutation_checker.specs.UnreadSplits.{IsInto}
use Rattle.refutation_log.proofs.LogLines.{some_bytes}
use Rattle.refutation_checker.proofs.Unread.{passed_none, shorter, passed_more, passed_all}
use Rattle.refutation_checker.proofs.Starts.{entered_state, entered_not, passed_tree, passed_idle}
use Rattle.refutation_checker.proofs.chunk_starts.pass_lines.Goals as goal

pub returns-then-not-branch-clause-passed : goal.returns-then-not-branch-clause-passed
returns-then-not-branch-clause-passed c =
    let P = c.args.problem.now in
    passed_tree P c.args.terms.goal c.args.terms.counts c.args.start.now c.args.splits.now.items c.loop-line.splits.items c.pass_line.new.splits.items c.args.bytes.now c.loop-line.reader c.in-Some.line.now c.next.new.self c.loop-line.count
    c.prove_limits.ensures c.loop-line.invariant c.in-Some.ensures.line.0 c.in-Some.ensures.line.1 c.in-Some.ensures.end
    (λ earlier l h text. entered_not c.in_ok-pass_line.field-0 _ _ c.if-not-branch.true (c.in_ok-pass_line.ensures P c.args.terms.goal c.args.terms.counts c.prove_limits.ensures earlier l h text))

pub returns-then-branch-clause-passed : goal.returns-then-branch-clause-passed
returns-then-branch-clause-passed c =
    let P = c.args.problem.now in
    let old = c.args.splits.now.items in
    let after = c.pass_line.new.splits.items in
    passed_idle P c.args.terms.goal c.args.terms.counts c.args.start.now old after after c.args.bytes.now c.next.new.self (c.loop-line.count + 1)
    (passed_more P c.args.terms.goal c.args.terms.counts old c.loop-line.splits.items after c.args.bytes.now c.loop-line.reader c.in-Some.line.now c.next.new.self c.loop-line.count
    c.prove_limits.ensures c.loop-line.invariant c.in-Some.ensures.line.0 c.in-Some.ensures.line.1 c.in-Some.ensures.end
    (λ earlier l h text. entered_state c.in_ok-pass_line.field-0 _ _ c.if-not-branch.false (c.in_ok-pass_line.ensures P c.args.terms.goal c.args.terms.counts c.prove_limits.ensures earlier l h text)))
    (subst (λ s. IsInto P c.args.terms.goal c.args.terms.counts c.args.start.now s None) c.deref.ensures.value (c.in_ok-are_too_many.ensures c.if-branch.true))

pub loop-line-preserved : goal.loop-line-preserved
loop-line-preserved c =
    let P = c.args.problem.now in
    passed_more P c.args.terms.goal c.args.terms.counts c.args.splits.now.items c.loop-line.splits.items c.pass_line.new.splits.items c.args.bytes.now c.loop-line.reader c.in-Some.line.now c.next.new.self c.loop-line.count
    c.prove_limits.ensures c.loop-line.invariant c.in-Some.ensures.line.0 c.in-Some.ensures.line.1 c.in-Some.ensures.end
    (λ earlier l h text. entered_state c.in_ok-pass_line.field-0 _ _ c.if-not-branch.false (c.in_ok-pass_line.ensures P c.args.terms.goal c.args.terms.counts c.prove_limits.ensures earlier l h text))

pub returns-clause-passed : goal.returns-clause-passed
returns-clause-passed c =
    passed_all c.args.problem.now c.args.terms.goal c.args.terms.counts c.args.splits.now.items c.loop-line.splits.items c.args.bytes.now c.loop-line.reader c.loop-line.count c.loop-line.invariant c.in_default.ensures.line

pub loop-line-init : goal.loop-line-init
loop-line-init c = passed_none c.args.problem.now c.args.terms.goal c.args.terms.counts c.args.splits.now.items c.args.bytes.now c.new-reader.result c.new-reader.ensures

pub loop-line-smaller : goal.loop-line-smaller
loop-line-smaller c = shorter c.loop-line.reader c.in-Some.line.now c.next.new.self c.in-Some.ensures.line.0 c.in-Some.ensures.line.1

pub pass_line-requires : goal.pass_line-requires
pass_line-requires c = some_bytes c.in-Some.line.now c.in-Some.ensures.line.0
