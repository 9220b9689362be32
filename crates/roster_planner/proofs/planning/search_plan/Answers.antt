use Rattle.std.proofs.Common.{None, subst}
use Rattle.std.specs.Option.{IfSome}
use Rattle.roster_planner.specs.Counted.{IsPlainProof}
use Rattle.roster_planner.proofs.OneLeaves.{found_at_once}
use Rattle.roster_planner.proofs.planning.search_plan.Goals as goal

pub returns-in-Some : goal.returns-in-Some
returns-in-Some g c =
    let P = c.args.problem.now in
    let start = c.args.opening.now in
    found_at_once P start c.args.budget c.in-Some.log c.requires.budget.0 c.requires.opening.2
    (subst (λ found. IfSome found (IsPlainProof P start None)) c.in-Some.is c.in_ok-log.ensures)
