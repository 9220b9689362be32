use Rattle.std.proofs.Common.{true, false, sym, ◌∙◌}
use Rattle.plain_words.proofs.Lines.{lone_by}
use Rattle.plain_words.proofs.log_told.lone_turn.Goals as goal

pub returns-then-some_cites_day-clause-turn : goal.returns-then-some_cites_day-clause-turn
returns-then-some_cites_day-clause-turn c =
    lone_by c.args.problem.now c.args.opening.now c.args.lines.now c.in-Turned.turn c.rule_number-number.result true c.in-Turned.is c.rule_number-number.ensures.value
    (sym c.if-some_cites_day.true ∙ c.some_cites_day.ensures)

pub returns-else-some_cites_day-clause-turn : goal.returns-else-some_cites_day-clause-turn
returns-else-some_cites_day-clause-turn c =
    lone_by c.args.problem.now c.args.opening.now c.args.lines.now c.in-Turned.turn c.rule_number-number.result false c.in-Turned.is c.rule_number-number.ensures.value
    (sym c.if-some_cites_day.false ∙ c.some_cites_day.ensures)
