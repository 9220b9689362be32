use Rattle.refutation_terms.proofs.Weighing.{window_weighs_enough, window_weighs_exactly}
use Rattle.refutation_terms.proofs.laws.windows_weigh_enough.Goals as goal

pub returns : goal.returns
returns c = record { enough = window_weighs_enough; exactly = window_weighs_exactly }
