use Rattle.refutation_terms.proofs.Windows.{clean-window}
use Rattle.refutation_terms.proofs.laws.windows_are_clean.Goals as goal

pub returns : goal.returns
returns c = clean-window
