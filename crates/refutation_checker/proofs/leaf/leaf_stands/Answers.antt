use Rattle.domain_store.specs.Store.{has_domain}
use Rattle.refutation_checker.proofs.Lines.{day_stands}
use Rattle.refutation_checker.proofs.leaf.leaf_stands.Goals as goal

pub returns-in-Day : goal.returns-in-Day
returns-in-Day c =
    day_stands c.args.problem.now c.args.terms.goal (has_domain c.args.doms.now) c.args.leaf.now c.in-Day.day c.in-Day.x c.in-Day.over c.day_holds.result c.in-Day.is c.day_holds.ensures
