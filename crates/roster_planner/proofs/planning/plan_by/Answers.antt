-- What is found from the first turn, as a plan. Where no leaf of blocks holds, its logs are as those of one that counts.
use Rattle.roster_planner.proofs.Counting.{if_found_counts}
use Rattle.roster_planner.proofs.Plans.{plan_fits, if_planned, if_plan_uncounted}
use Rattle.roster_planner.proofs.planning.plan_by.Goals as goal

pub search_plan-requires-clause-opening : goal.search_plan-requires-clause-opening
search_plan-requires-clause-opening g c = λ _ _.
    let first = c.scarcest_turn-opening.ensures.scarcest in
    let fits = plan_fits c.args.problem.now c.scarcest_turn-opening.result first c.scarcest_turn-opening.ensures.of_kind in
    (fits.0, fits.1, first)

pub returns-in-None-clause-planned : goal.returns-in-None-clause-planned
returns-in-None-clause-planned g c =
    if_planned c.args.problem.now c.scarcest_turn-opening.result c.args.effort.budget c.search_plan.result c.scarcest_turn-opening.ensures.of_kind c.search_plan.ensures

pub returns-in-None-clause-counted : goal.returns-in-None-clause-counted
returns-in-None-clause-counted g c =
    if_found_counts c.args.problem.now c.args.effort.counts c.search_plan.result (c.in_ok-found.ensures.none c.in-None.is)
    (if_plan_uncounted c.args.problem.now c.scarcest_turn-opening.result c.args.effort.budget c.search_plan.result c.scarcest_turn-opening.ensures.of_kind c.search_plan.ensures)
