-- A settled position has no symbol that is cut, and one without such a symbol is settled.
use Rattle.std.proofs.Common.{◌<◌, arith}
use Rattle.rwsp_terms.specs.Instance.{cells}
use Rattle.propagators.proofs.CutSymbols.{cells_of_store}
use Rattle.propagators.proofs.Awaiting.{uncut_where_settled, settled_where_uncut}
use Rattle.propagators.proofs.cycle_cut.unsupported_at.Goals as goal

pub settle-requires-clause-supported : goal.settle-requires-clause-supported
settle-requires-clause-supported c =
    let C = c.args.cycle.now in
    let S = c.args.doms.now in
    let within : c.args.p < cells C.problem = omega (arith, c.requires.position, c.prove_facts.ensures.now.long, cells_of_store C.problem S c.requires.stands.belongs) in
    settled_where_uncut C S c.args.p c.requires.stands c.prove_facts.ensures.tests within c.in_default.ensures

pub returns-then-not-is_pending-clause-cut : goal.returns-then-not-is_pending-clause-cut
returns-then-not-is_pending-clause-cut c =
    uncut_where_settled c.args.cycle.now c.args.doms.now c.args.p c.requires.stands c.prove_facts.ensures.tests (c.is_pending.ensures c.if-not-is_pending.true)
