-- A log of the leaf of blocks is needed whole.
use Rattle.std.proofs.Common.{subst}
use Rattle.std.specs.Prelude.{MatchOption}
use Rattle.refutation_terms.specs.BlocksLeaf.{NoBlocksHold}
use Rattle.refutation_log.specs.Filled.{IsCountedFill}
use Rattle.roster_planner.proofs.CountedFills.{counted_proof}
use Rattle.roster_planner.proofs.filling.fill.Goals as goal

pub returns-in-Some-clause-filled : goal.returns-in-Some-clause-filled
returns-in-Some-clause-filled g c =
    let P = c.args.problem.now in
    counted_proof P c.args.given.now c.args.budget c.in-Some.log c.requires.budget.0
    (subst (λ found. MatchOption found (NoBlocksHold P) (IsCountedFill P)) c.in-Some.is c.in_ok-log.ensures)
