use Rattle.rule_reducer.proofs.Stripped.{day_none_lost}
use Rattle.rule_reducer.proofs.stripped_lines.loses_weights.Goals as goal

pub returns-in-Day : goal.returns-in-Day
returns-in-Day c = λ no_day. day_none_lost c.args.rule c.args.weights.now c.in-Day.day c.in-Day.is (c.weighs_on.ensures no_day)
