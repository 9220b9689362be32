use Rattle.refutation_terms.proofs.Turned.{turning_keeps_rules, turning_keeps_lists, some_turn_has_it}
use Rattle.refutation_terms.proofs.laws.turning_keeps_rules.Goals as goal

pub returns : goal.returns
returns c = record { each = turning_keeps_rules; lists = turning_keeps_lists; some = some_turn_has_it }
