use Rattle.std.proofs.Common.{ap, ◌∙◌, Some}
use Rattle.ways_out.proofs.Helping.{none_meets, unnamed_never, tells_not}
use Rattle.ways_out.proofs.side_by_side.outcome_by_rule.Goals as goal

pub returns-else-holds : goal.returns-else-holds
returns-else-holds g c =
    let refuted = c.args.refuted.now in
    unnamed_never refuted.asked.problem.now refuted.named.now c.args.change c.number_of-number.result c.requires.change c.requires.refutes
    (c.number_of-number.ensures.value ∙ ap Some c.changed_rule.ensures)
    (tells_not c.holds.result c.holds.ensures c.if-holds.false)

pub outcome_by_group-requires-clause-none : goal.outcome_by_group-requires-clause-none
outcome_by_group-requires-clause-none g c κs within =
    none_meets c.args.refuted.now.asked.problem.now c.args.refuted.now.named.now c.requires.refutes
