-- What the reasons of windows and days see.
use Rattle.roster_planner.proofs.Counting.{if_plain_look}
use Rattle.roster_planner.proofs.counted.plain_look.Goals as goal

pub returns : goal.returns
returns c = if_plain_look c.args.problem.now _ _ _ c.args.doms.now c.look-look.result c.in_ok-reasons.ensures.leaves c.in_ok-reasons.ensures.only c.in_ok-reasons.ensures.spent c.in_ok-reasons.ensures.serves c.look-look.ensures.look
