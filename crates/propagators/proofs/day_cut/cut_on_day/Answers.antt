-- One symbol more takes none away.
use Rattle.domain_store.specs.Store.{has_domain}
use Rattle.propagators.proofs.Cuts.{one_symbol_more}
use Rattle.propagators.proofs.day_cut.cut_on_day.Goals as goal

pub loop-number-preserved : goal.loop-number-preserved
loop-number-preserved c =
    one_symbol_more c.args.problem.now (has_domain c.args.doms.now) c.args.day c.loop-number.number c.loop-number.invariant c.in_default.ensures
