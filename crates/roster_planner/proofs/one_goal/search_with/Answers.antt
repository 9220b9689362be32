use Rattle.std.proofs.Common.{arith}
use Rattle.roster_planner.proofs.one_goal.search_with.Goals as goal

pub returns-in-Some : goal.returns-in-Some
returns-in-Some c =
    let found = rw c.in-Some.is at c.in_ok-proof.ensures.proof in
    let few = found.2 in
    let some = c.requires.budget.0 in
    record {
      found = (found.0, found.1, omega (arith, few, some), found.3);
      counted = rw c.in-Some.is at c.in_ok-proof.ensures.counts;
      complete = λ bad. absurd bad;
    }

pub split_cases-requires-clause-top : goal.split_cases-requires-clause-top
split_cases-requires-clause-top c = rw c.in-None.is at c.in_ok-proof.ensures.proof
