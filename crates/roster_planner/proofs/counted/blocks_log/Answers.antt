use Rattle.roster_planner.proofs.Counting.{blocks_close, blocks_proof}
use Rattle.roster_planner.proofs.counted.blocks_log.Goals as goal

pub returns : goal.returns
returns c =
    let P = c.args.problem.now in
    let o = c.args.opening in
    let x = c.args.x in
    let made = c.one_leaf_log.ensures in
    blocks_proof P o c.args.goal x c.one_leaf_log.result c.requires.blocks c.requires.no_plain made.opening made.goal made.counts made.lines made.cited
    (made.passes (blocks_close P o c.args.goal x c.requires.goal c.requires.opening.1 c.requires.blocks))
