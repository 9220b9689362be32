-- What the search finds, by the reasons of cases.
use Rattle.std.specs.Prelude.{Some}
use Rattle.roster_planner.proofs.Founds.{if_found_with}
use Rattle.roster_planner.proofs.Counting.{if_uncounted}
use Rattle.roster_planner.proofs.one_goal.split_cases.Goals as goal

pub returns-clause-found : goal.returns-clause-found
returns-clause-found c =
    if_found_with c.args.automaton.now.problem c.args.goal c.args.budget _ _ c.planner_search-found.result (rw c.problem.ensures at c.prove_limits.ensures) c.requires.top c.in_ok-reasons.ensures.reasons c.planner_search-found.ensures.found

pub returns-clause-counted : goal.returns-clause-counted
returns-clause-counted c = if_uncounted c.args.automaton.now.problem (Some c.args.goal) c.args.budget _ _ c.planner_search-found.result c.in_ok-reasons.ensures.reasons c.planner_search-found.ensures.found
