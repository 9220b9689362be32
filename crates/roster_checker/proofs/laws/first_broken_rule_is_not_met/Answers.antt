use Rattle.roster_checker.proofs.FirstBroken.{first_broken-not_met}
use Rattle.roster_checker.proofs.laws.first_broken_rule_is_not_met.Goals as goal

pub returns : goal.returns
returns c = first_broken-not_met
