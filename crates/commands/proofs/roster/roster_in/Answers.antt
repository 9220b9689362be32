use Rattle.std.proofs.Common.{inr}
use Rattle.crew_checker.proofs.LeastEnds.{found_as}
use Rattle.commands.proofs.RosterAnswers.{none_stands}
use Rattle.commands.proofs.roster.roster_in.Goals as goal

pub returns-clause-stands : goal.returns-clause-stands
returns-clause-stands c =
    let whole = rw c.in_default.is at c.in_ok-roster.ensures.spelled in
    let best = rw c.in_default-2.is at c.in_ok-roster-2.ensures.best in
    found_as c.read_least.result _ _ _ _ (λ least m s h. none_stands c.args.problem.now c.args.bytes.now whole best least m s h) (λ here least. inr (whole, inr least)) c.read_least.ensures.text
