use Rattle.std.proofs.Common.{arith}
use Rattle.rwsp_model.proofs.Numbering.{number_at_place}
use Rattle.rwsp_model.proofs.rules.rule_at.Goals as goal

pub returns-clause-value : goal.returns-clause-value
returns-clause-value c = number_at_place c.args.problem.now _ _ c.rule_standing.ensures.rule (omega (arith, c.rule_standing.ensures.place))
