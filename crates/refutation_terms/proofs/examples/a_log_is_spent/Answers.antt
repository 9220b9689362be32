use Rattle.std.proofs.Common.{refl}
use Rattle.refutation_terms.proofs.ExampleSharp.{open_log_is_spent}
use Rattle.refutation_terms.proofs.examples.a_log_is_spent.Goals as goal

pub returns : goal.returns
returns c = record { spent = open_log_is_spent; one = refl; three = refl }
