-- One symbol more is not cut; none has a number above the last.
use Rattle.std.proofs.Common.{◌≤◌, arith}
use Rattle.propagators.proofs.CutSymbols.{one_number_more, symbol_within}
use Rattle.propagators.proofs.cycle_cut.unsupported_symbol.Goals as goal

pub loop-number-preserved : goal.loop-number-preserved
loop-number-preserved c = one_number_more c.args.cycle.now c.args.doms.now c.args.p c.loop-number.number c.is_unsupported.result c.loop-number.invariant c.is_unsupported.ensures c.if-is_unsupported.false

pub returns : goal.returns
returns c x u =
    let small : x.number ≤ c.args.doms.now.shifts = symbol_within c.args.cycle.now c.args.doms.now c.args.p x c.prove_facts.ensures.tests u in
    c.loop-number.invariant x (omega (arith, small, c.loop-number-test.false, c.shifts-number-end.ensures.value)) u
