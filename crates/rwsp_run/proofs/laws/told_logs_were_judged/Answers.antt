use Rattle.rwsp_run.proofs.ToldRules.{told_logs_judged}
use Rattle.rwsp_run.proofs.laws.told_logs_were_judged.Goals as goal

pub returns : goal.returns
returns c = told_logs_judged
