use Rattle.refutation_terms.proofs.Windows.{clean-part, clean-fewer}
use Rattle.refutation_terms.proofs.laws.clean_stays_clean.Goals as goal

pub returns : goal.returns
returns c = record { parts = clean-part; fewer = clean-fewer }
