use Rattle.rwsp_terms.proofs.SameLists.{same_rule_lists}
use Rattle.rwsp_terms.proofs.laws.rule_lists_are_sets.Goals as goal

pub returns : goal.returns
returns c = same_rule_lists
