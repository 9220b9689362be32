use Rattle.refutation_terms.proofs.Blocks.{block_counts_fit}
use Rattle.refutation_terms.proofs.laws.block_counts_fit.Goals as goal

pub returns : goal.returns
returns c = block_counts_fit
