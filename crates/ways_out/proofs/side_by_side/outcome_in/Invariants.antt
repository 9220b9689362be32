use Rattle.ways_out.specs.Shares.{IsShare}
use Rattle.ways_out.proofs.side_by_side.outcome_in.Given as goal

abbrev pub invariant-loop-taken : goal.invariant-loop-taken
invariant-loop-taken g l = IsShare l.refuted.asked.problem.now l.refuted.asked.effort l.changes l.outcomes
