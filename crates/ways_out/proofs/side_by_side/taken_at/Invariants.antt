use Rattle.ways_out.specs.Shares.{AreShares}
use Rattle.ways_out.proofs.side_by_side.taken_at.Given as goal

abbrev pub invariant-loop-worker : goal.invariant-loop-worker
invariant-loop-worker g l = AreShares l.refuted.asked.problem.now l.refuted.asked.effort l.changes l.shares
