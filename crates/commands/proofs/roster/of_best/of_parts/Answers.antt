use Rattle.commands.proofs.ReadBest.{not_counted, no_log}
use Rattle.commands.proofs.roster.of_best.of_parts.Goals as goal

pub returns-then-not-branch-clause-parts : goal.returns-then-not-branch-clause-parts
returns-then-not-branch-clause-parts c =
    not_counted c.args.problem.now c.args.first.now c.args.part.now c.args.log.now c.in-Some.roster.cells c.free_weekends-free.result c.prove_limits.ensures
    (rw c.in-Some.is at c.in_ok-roster.ensures.roster) (rw c.in-Some.is at c.in_ok-roster.ensures.printed) c.free_weekends-free.ensures.value (rw c.if-not-branch.true at c.in_ok-says_free.ensures)

pub returns-then-not-branch-2-clause-parts : goal.returns-then-not-branch-2-clause-parts
returns-then-not-branch-2-clause-parts c =
    no_log c.args.problem.now c.args.first.now c.args.part.now c.args.log.now c.in-Some.roster.cells c.free_weekends-free.result c.prove_limits.ensures
    (rw c.in-Some.is at c.in_ok-roster.ensures.roster) (rw c.in-Some.is at c.in_ok-roster.ensures.printed) c.free_weekends-free.ensures.value (rw c.if-not-branch-2.true at c.in_ok-is_free_log.ensures)
