use Rattle.ways_out.proofs.Helping.{tells_not}
use Rattle.ways_out.proofs.Reaching.{none_up_to_none}
use Rattle.ways_out.proofs.nearest.outcome_of_open.Goals as goal

pub outcome_by_numbers-requires-clause-demand : goal.outcome_by_numbers-requires-clause-demand
outcome_by_numbers-requires-clause-demand g c κs within = c.is_of_demand.ensures.0 c.if-is_of_demand.true

pub outcome_by_doubling-requires-clause-none : goal.outcome_by_doubling-requires-clause-none
outcome_by_doubling-requires-clause-none g c κs within = none_up_to_none c.args.asked.now.problem.now c.args.change

pub outcome_by_doubling-requires-clause-numbers : goal.outcome_by_doubling-requires-clause-numbers
outcome_by_doubling-requires-clause-numbers g c κs within = λ demand.
    absurd (tells_not c.is_of_demand.result c.is_of_demand.ensures c.if-is_of_demand.false demand)
