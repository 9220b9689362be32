use Rattle.std.proofs.Common.{arith}
use Rattle.std.proofs.lemmas.List.Edits.{length-between}
use Rattle.refutation_checker.proofs.Feeds.{fed_by_block}
use Rattle.refutation_checker.proofs.line_ends.count_feeds.Goals as goal

pub loop-at-preserved : goal.loop-at-preserved
loop-at-preserved c =
    let bytes = c.args.bytes.now in
    let end = c.block_end-end.ensures in
    let before = c.loop-at.invariant in
    let all = fed_by_block bytes c.loop-at.at c.block_end-end.result (omega (arith, end.0)) in
    let long = length-between bytes c.loop-at.at c.block_end-end.result end.1 in
    let more = c.feeds_in_block.ensures.value in
    let few = c.feeds_in_block.ensures.few in
    let same = c.from-count.ensures in
    (end.1, omega (arith, all, before.1, more, same), omega (arith, before.2, few, long, same, end.0))
