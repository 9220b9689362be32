use Rattle.roster_planner.proofs.ShortSearches.{some_found_by}
use Rattle.roster_planner.proofs.starts.short_searches.Goals as goal

pub returns-then-is_some-clause-found : goal.returns-then-is_some-clause-found
returns-then-is_some-clause-found g c =
    let A = g.A.Propagator in
    some_found_by c.args.problem.now c.args.aim.now.opening c.args.aim.now.goal c.args.aim.now.budget A.serves A.leaves A.spent c.args.reasons.now c.loop-number.reasons c.in_ok-found.found c.loop-number.invariant.same c.in_ok-found.ensures.found
