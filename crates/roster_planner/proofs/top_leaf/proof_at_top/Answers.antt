-- The list of the automaton is that of all short rules.
use Rattle.roster_planner.proofs.top_leaf.proof_at_top.Goals as goal

pub returns-else-branch-clause-proof : goal.returns-else-branch-clause-proof
returns-else-branch-clause-proof c =
    let fails = rw c.if-branch.false at c.in_ok-holds_at_top.ensures.1 in
    record { short = c.args.automaton.now.rules; all_short = c.requires.short.all_short; fails = λ h. cc (fails h) }
