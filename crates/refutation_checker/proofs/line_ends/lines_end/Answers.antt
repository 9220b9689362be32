use Rattle.std.proofs.Common.{arith}
use Rattle.std.proofs.lemmas.List.Edits.{length-between}
use Rattle.refutation_checker.proofs.Feeds.{fed_by_block, ends_in_block}
use Rattle.refutation_checker.proofs.line_ends.lines_end.Goals as goal

pub returns-then-count-more-clause-lines : goal.returns-then-count-more-clause-lines
returns-then-count-more-clause-lines c =
    let end = c.block_end-end.ensures in
    let before = c.loop-at.invariant in
    ends_in_block c.args.bytes.now c.loop-at.at c.block_end-end.result c.loop-at.count c.args.size c.lines_end_in.result
    (omega (arith, end.0)) end.1 before.1 before.2 c.lines_end_in.ensures.within c.lines_end_in.ensures.count c.lines_end_in.ensures.last

pub loop-at-preserved : goal.loop-at-preserved
loop-at-preserved c =
    let bytes = c.args.bytes.now in
    let end = c.block_end-end.ensures in
    let before = c.loop-at.invariant in
    let all = fed_by_block bytes c.loop-at.at c.block_end-end.result (omega (arith, end.0)) in
    let long = length-between bytes c.loop-at.at c.block_end-end.result end.1 in
    let more = c.feeds_in_block.ensures.value in
    let few = c.feeds_in_block.ensures.few in
    let same = c.from-more.ensures in
    let less = c.if-count-more.false in
    (end.1, omega (arith, all, before.1, more, same), omega (arith, less), omega (arith, before.3, few, long, same, end.0))
