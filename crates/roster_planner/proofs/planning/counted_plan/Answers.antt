-- A log of one leaf is a plan.
use Rattle.roster_planner.proofs.OneLeaves.{one_plan}
use Rattle.roster_planner.proofs.Plans.{counts_either, plan_fits}
use Rattle.roster_planner.proofs.planning.counted_plan.Goals as goal

pub counted_log-requires-clause-opening : goal.counted_log-requires-clause-opening
counted_log-requires-clause-opening c = plan_fits c.args.problem.now c.scarcest_turn.result c.scarcest_turn.ensures.scarcest c.scarcest_turn.ensures.of_kind

pub counted_log-requires-clause-either : goal.counted_log-requires-clause-either
counted_log-requires-clause-either c = counts_either c.scarcest_turn.result c.scarcest_turn.ensures.of_kind

pub returns-in-Some-clause-planned : goal.returns-in-Some-clause-planned
returns-in-Some-clause-planned c =
    one_plan c.args.problem.now c.args.effort.budget c.scarcest_turn.result c.in-Some.log c.requires c.scarcest_turn.ensures.scarcest c.scarcest_turn.ensures.of_kind (rw c.in-Some.is at c.in_ok-log.ensures)
