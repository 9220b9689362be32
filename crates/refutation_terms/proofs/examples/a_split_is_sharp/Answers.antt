use Rattle.refutation_terms.proofs.ExampleSplit.{odd_log_is_sharp}
use Rattle.refutation_terms.proofs.examples.a_split_is_sharp.Goals as goal

pub returns : goal.returns
returns c = odd_log_is_sharp
