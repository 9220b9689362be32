-- A log of one leaf is a proof, and behind it no leaf of blocks holds.
use Rattle.roster_planner.proofs.OneLeaves.{one_proof}
use Rattle.roster_planner.proofs.Counting.{if_best_counts}
use Rattle.roster_planner.proofs.raising.best.Goals as goal

pub returns-in-Some-clause-found : goal.returns-in-Some-clause-found
returns-in-Some-clause-found c =
    let h = rw c.in-Some.is at c.in_ok-proof.ensures in
    one_proof c.args.problem.now c.args.effort.budget 0 c.in-Some.proof c.requires.budget.0 h.one_leaf h.passes h.same_goal h.cited

pub returns-in-None-clause-counted : goal.returns-in-None-clause-counted
returns-in-None-clause-counted c = if_best_counts c.args.problem.now c.args.effort.counts c.search_best-in-None.result (λ _. rw c.in-None.is at c.in_ok-proof.ensures) c.search_best-in-None.ensures.counted
