-- The kept domains are the store's.
use Rattle.propagators.proofs.OverrunLemmas.{answer_of_store}
use Rattle.propagators.proofs.counts.Counts.overrun.Goals as goal

pub returns : goal.returns
returns c S stands = answer_of_store c.args.problem.now c.args.self.now S _ stands c.first_overrun.ensures
