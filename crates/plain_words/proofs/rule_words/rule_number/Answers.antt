use Rattle.std.proofs.Common.{sym}
use Rattle.rwsp_model.proofs.Numbering.{rule_numbered}
use Rattle.plain_words.proofs.rule_words.rule_number.Goals as goal

pub returns-clause-value : goal.returns-clause-value
returns-clause-value c = sym (rule_numbered c.args.problem.now c.number_of.result c.args.rule c.number_of.ensures.value).1
