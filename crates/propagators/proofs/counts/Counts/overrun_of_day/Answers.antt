-- One symbol more is within the demand.
use Rattle.propagators.proofs.OverrunLemmas.{one_symbol_more}
use Rattle.propagators.proofs.counts.Counts.overrun_of_day.Goals as goal

pub loop-number-preserved : goal.loop-number-preserved
loop-number-preserved c =
    one_symbol_more c.args.problem.now c.args.self.now c.args.day c.loop-number.number c.loop-number.invariant c.in_default.ensures
