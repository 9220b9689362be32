use Rattle.ways_out.proofs.Staying.{roster_stays}
use Rattle.ways_out.proofs.enough.fewer_steps.Goals as goal

pub is_enough-requires-clause-roster : goal.is_enough-requires-clause-roster
is_enough-requires-clause-roster c =
    roster_stays c.args.problem.now c.args.change c.args.steps c.args.roster.now.cells c.requires.change c.requires.roster
