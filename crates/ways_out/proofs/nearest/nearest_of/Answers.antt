use Rattle.ways_out.proofs.Reaching.{none_up_to_none, end_gives}
use Rattle.ways_out.proofs.nearest.nearest_of.Goals as goal

pub double-requires-clause-none : goal.double-requires-clause-none
double-requires-clause-none g c κs within = none_up_to_none c.args.asked.now.problem.now c.args.change

pub narrow-requires-clause-roster : goal.narrow-requires-clause-roster
narrow-requires-clause-roster g c κs within =
    end_gives c.args.asked.now.problem.now c.args.change c.in_ok-near.near.end c.args.found c.in_ok-near.ensures.within c.in_ok-near.ensures.roster c.requires.roster
