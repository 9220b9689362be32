use Rattle.refutation_log.proofs.HeaderLines.{goal_fits}
use Rattle.refutation_log.proofs.LogLines.{answer_behind}
use Rattle.refutation_log.proofs.read.read_log.Goals as goal

pub log_behind-requires-clause-goal : goal.log_behind-requires-clause-goal
log_behind-requires-clause-goal c =
    let h = c.in-Ok.header in
    goal_fits c.args.problem.now c.args.kind h.opening h.goal c.requires.kind c.in-Ok.ensures.of_kind c.in-Ok.ensures.in_range

pub returns : goal.returns
returns c =
    answer_behind c.args.problem.now c.args.kind c.in-Ok.header c.args.bytes.now c.in-Ok.header.body.now c.log_behind.result
    c.in-Ok.ensures.of_kind c.in-Ok.ensures.whole c.log_behind.ensures
