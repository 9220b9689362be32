-- What is found from the first turn, as a plan. Where no leaf of blocks holds, its logs are as those of one that counts.
use Rattle.roster_planner.proofs.Counting.{if_found_counts}
use Rattle.roster_planner.proofs.Plans.{plan_fits, if_planned, if_plan_uncounted}
use Rattle.roster_planner.proofs.planning.plan_over.Goals as goal

pub rosters_first-requires-clause-opening : goal.rosters_first-requires-clause-opening
rosters_first-requires-clause-opening g c = λ _ _.
    let first = rw c.problem-problem.ensures at c.scarcest_turn-opening.ensures.scarcest in
    let fits = plan_fits c.args.automaton.now.problem c.scarcest_turn-opening.result first c.scarcest_turn-opening.ensures.of_kind in
    (fits.0, fits.1, first)

pub returns-in_ok-doms-in-None-clause-planned : goal.returns-in_ok-doms-in-None-clause-planned
returns-in_ok-doms-in-None-clause-planned g c =
    if_planned c.args.automaton.now.problem c.scarcest_turn-opening.result c.args.effort.budget c.rosters_first.result c.scarcest_turn-opening.ensures.of_kind c.rosters_first.ensures

pub returns-in_ok-doms-in-None-clause-counted : goal.returns-in_ok-doms-in-None-clause-counted
returns-in_ok-doms-in-None-clause-counted g c =
    if_found_counts c.args.automaton.now.problem c.args.effort.counts c.rosters_first.result (rw c.problem.ensures at (c.in_ok-found.ensures.none c.in-None.is))
    (if_plan_uncounted c.args.automaton.now.problem c.scarcest_turn-opening.result c.args.effort.budget c.rosters_first.result c.scarcest_turn-opening.ensures.of_kind c.rosters_first.ensures)
