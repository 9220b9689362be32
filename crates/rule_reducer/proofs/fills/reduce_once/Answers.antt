use Rattle.rule_reducer.proofs.Rounds.{cells_lost, loses_on, rules_lost, round_over}
use Rattle.rule_reducer.proofs.fills.reduce_once.Goals as goal

pub returns-clause-kept : goal.returns-clause-kept
returns-clause-kept c =
    loses_on c.args.log c.in_ok-left.left c.in_ok-reduced.reduced
    (cells_lost c.args.problem.now 1 c.args.log c.in_ok-left.left c.in_ok-left.ensures)
    (rules_lost c.in_ok-left.left c.in_ok-reduced.reduced c.in_ok-reduced.ensures.kept)

pub returns-clause-round : goal.returns-clause-round
returns-clause-round c =
    let e = c.in_ok-reduced.ensures in
    round_over c.args.problem.now c.args.log c.in_ok-left.left c.in_ok-reduced.reduced c.in_ok-left.ensures e.reduced e.kept e.passes e.needed
