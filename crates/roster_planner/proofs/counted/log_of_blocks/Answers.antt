use Rattle.roster_planner.proofs.Counting.{plain_counted}
use Rattle.roster_planner.proofs.counted.log_of_blocks.Goals as goal

pub returns-in-Some : goal.returns-in-Some
returns-in-Some c = plain_counted c.args.problem.now c.args.opening c.args.goal c.plain_log.result c.requires.either c.plain_log.ensures
