use Rattle.refutation_terms.proofs.Windows.{over-window}
use Rattle.refutation_terms.proofs.laws.windows_are_over.Goals as goal

pub returns : goal.returns
returns c = over-window
