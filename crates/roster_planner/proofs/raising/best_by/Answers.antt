-- The goal is above the roster that is kept, and the proof is of one free weekend more.
use Rattle.std.proofs.Common.{◌≡◌, ℕ, subst}
use Rattle.refutation_log.specs.Bests.{IsFreeProof, IsFoundWith, goal_above, goal_behind}
use Rattle.refutation_log.specs.declared.found.Found.TheVariants.{Roster}
use Rattle.roster_planner.proofs.raising.best_by.Goals as goal

pub loop-kept-preserved : goal.loop-kept-preserved
loop-kept-preserved c =
    let s = c.in-Roster.roster in
    let found : IsFoundWith c.args.automaton.now.problem c.args.budget c.loop-kept.rising (Roster s) = rw c.in-Roster.is at c.in_ok-roster.ensures.found in
    let above : c.search.new.self ≡ goal_behind c.loop-kept.rising (Roster s) = rw c.in-Roster.is at c.in_ok-roster.ensures.goal in
    record { kept = found.0; above = above; within = c.in_ok-roster.ensures.few }

pub returns-in-NoRoster-clause-found : goal.returns-in-NoRoster-clause-found
returns-in-NoRoster-clause-found c =
    let P = c.args.automaton.now.problem in
    let proof = c.in-NoRoster.proof in
    let found : IsFreeProof P c.args.budget c.loop-kept.rising proof = rw c.in-NoRoster.is at c.in_ok-roster.ensures.found in
    let above : IsFreeProof P c.args.budget (goal_above c.loop-kept.kept) proof = subst (λ (g : ℕ). IsFreeProof P c.args.budget g proof) c.loop-kept.invariant.above found in
    c.ended.ensures.found P c.args.budget c.loop-kept.invariant.kept above

pub returns-in-NoRoster-clause-counted : goal.returns-in-NoRoster-clause-counted
returns-in-NoRoster-clause-counted c = c.ended.ensures.counted c.args.automaton.now.problem (rw c.in-NoRoster.is at c.in_ok-roster.ensures.counted)

pub returns-in-Undecided-clause-counted : goal.returns-in-Undecided-clause-counted
returns-in-Undecided-clause-counted c = rw c.in-Undecided.is at c.in_ok-roster.ensures.counted
