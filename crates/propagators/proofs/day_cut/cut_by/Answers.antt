-- Cut to the symbol itself, or to the one beside it.
use Rattle.domain_store.specs.Store.{has_domain}
use Rattle.propagators.proofs.Cuts.{over_cut, short_cut}
use Rattle.propagators.proofs.day_cut.cut_by.Goals as goal

pub returns-then-over : goal.returns-then-over
returns-then-over c =
    over_cut c.args.problem.now (has_domain c.args.doms.now) c.args.day c.in-Some-place_beside.p c.args.counted c.in-Some-place_beside.other c.in-Some.over c.if-over.true c.requires.day c.requires.symbol c.in-Some.ensures c.in-Some-place_beside.ensures

pub returns-else-over : goal.returns-else-over
returns-else-over c =
    short_cut c.args.problem.now (has_domain c.args.doms.now) c.args.day c.in-Some-place_beside.p c.args.counted c.in-Some-place_beside.other c.in-Some.over c.if-over.false c.requires.day c.requires.symbol c.in-Some.ensures c.in-Some-place_beside.ensures
