-- One day more takes none away.
use Rattle.std.proofs.Common.{arith}
use Rattle.domain_store.specs.Store.{has_domain}
use Rattle.propagators.proofs.Cuts.{one_day_more}
use Rattle.propagators.proofs.day_cut.first_cut.Goals as goal

pub loop-day-preserved : goal.loop-day-preserved
loop-day-preserved c = record {
  some = omega arith;
  before = one_day_more c.args.problem.now (has_domain c.args.doms.now) c.loop-day.day c.loop-day.invariant.before c.in_default.ensures;
}
