use Rattle.std.proofs.Common.{List, sym, subst}
use Rattle.ways_out.specs.declared.side_by_side.Placed.{Placed}
use Rattle.ways_out.specs.Shares.{IsShare}
use Rattle.ways_out.proofs.Shares.{share_there}
use Rattle.ways_out.proofs.side_by_side.taken_at.Goals as goal

pub outcome_in-found-requires : goal.outcome_in-found-requires
outcome_in-found-requires g c =
    let P = c.args.refuted.now.asked.problem.now in
    let b = c.args.refuted.now.asked.effort in
    subst (λ (share : List Placed). IsShare P b c.args.changes.now share) (sym c.deref.ensures.value)
    (share_there P b c.args.changes.now c.args.shares.now c.loop-worker.worker c.index-shares-worker.result c.in-Ok.outcomes c.loop-worker-test.true c.requires c.index-shares-worker.is c.in-Ok.is)
