use Rattle.roster_planner.proofs.ShortSearches.{if_found_by}
use Rattle.roster_planner.proofs.starts.search_by_starts.Goals as goal

pub returns-in-None-clause-found : goal.returns-in-None-clause-found
returns-in-None-clause-found g c =
    let A = g.A.Propagator in
    if_found_by c.args.problem.now c.args.aim.opening c.args.aim.goal c.args.aim.budget A.serves A.leaves A.spent c.args.reasons.now c.short_searches.new.reasons c.search.result c.short_searches.ensures.same c.search.ensures.found
