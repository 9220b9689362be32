use Rattle.refutation_terms.proofs.ExampleSharp.{turn_log_is_sharp}
use Rattle.refutation_terms.proofs.examples.a_turn_is_sharp.Goals as goal

pub returns : goal.returns
returns c = turn_log_is_sharp
