use Rattle.roster_checker.proofs.FirstBroken.{first_broken-same}
use Rattle.roster_checker.proofs.laws.first_broken_rule_is_unique.Goals as goal

pub returns : goal.returns
returns c = first_broken-same
