use Rattle.clean_words.proofs.RuleMonitors.{of_number}
use Rattle.clean_words.proofs.monitor.monitor_of.Goals as goal

pub returns : goal.returns
returns c = of_number c.args.problem.now c.args.number c.rule_at.result c.watching.result c.rule_at.ensures.value c.watching.ensures
