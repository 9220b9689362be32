use Rattle.ways_out.proofs.Reaching.{none_up_to}
use Rattle.ways_out.proofs.numbers.outcome_by_numbers.Goals as goal

pub outcome_by_doubling-requires-clause-none : goal.outcome_by_doubling-requires-clause-none
outcome_by_doubling-requires-clause-none g c κs within =
    let next = rw c.in-Shut.is at c.in_ok-outcome.ensures in
    none_up_to c.args.asked.now.problem.now c.args.change c.in-Shut.shut c.requires.change next.none

pub outcome_by_doubling-requires-clause-numbers : goal.outcome_by_doubling-requires-clause-numbers
outcome_by_doubling-requires-clause-numbers g c κs within = λ demand. rw c.in-Shut.is at c.in_ok-outcome.ensures
