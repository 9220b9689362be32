use Rattle.rwsp_run.proofs.ToldRules.{told_rules_named}
use Rattle.rwsp_run.proofs.laws.told_rules_are_named.Goals as goal

pub returns : goal.returns
returns c = told_rules_named
