use Rattle.ways_out.specs.Shares.{IsShare}
use Rattle.ways_out.proofs.side_by_side.share.Given as goal

abbrev pub invariant-loop : goal.invariant-loop
invariant-loop g l = IsShare l.refuted.asked.problem.now l.refuted.asked.effort l.changes l.outcomes.items
