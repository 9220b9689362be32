-- What the search finds is sharp, by the reasons.
use Rattle.roster_planner.proofs.Sharpness.{if_found_from}
use Rattle.roster_planner.proofs.cases.search_cases.Goals as goal

pub returns : goal.returns
returns g c =
    let P = c.args.automaton.now.problem in
    let reasons = c.in_ok-reasons.ensures.reasons in
    if_found_from
    P
    c.args.opening.now
    _
    c.args.budget
    _
    _
    reasons.cases.rules
    c.planner_search-found.result
    (rw c.problem.ensures at c.prove_limits.ensures)
    c.requires.budget.0
    c.requires.opening.2
    reasons.cases.short
    reasons
    c.in_ok-copy.ensures
    c.planner_search-found.ensures.found
    c.planner_search-found.ensures.complete
