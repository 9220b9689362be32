use Rattle.std.proofs.Common.{arith}
use Rattle.ways_out.proofs.Reaching.{left_open}
use Rattle.ways_out.proofs.nearest.outcome_by_doubling.Goals as goal

pub returns-else-near-most : goal.returns-else-near-most
returns-else-near-most g c =
    let P = c.args.asked.now.problem.now in
    let within = c.in_ok-near.ensures.within in
    let past = c.if-near-most.false in
    left_open P c.args.asked.now.effort c.args.change c.args.shut c.args.most c.in_ok-near.near.end c.requires.most.0 c.requires.most.1 c.requires.open
    (omega (arith, within, past)) c.in_ok-near.ensures.doubled.fewer c.requires.numbers
