use Rattle.roster_print.proofs.Printing.{name_more, names_done}
use Rattle.roster_print.proofs.names.put_after_blanks.Goals as goal

pub loop-symbol-preserved : goal.loop-symbol-preserved
loop-symbol-preserved c = name_more c.args.problem.now c.args.symbols.now c.loop-symbol.symbol-index c.args.out.now.items c.loop-symbol.out.items _ _ _ c.loop-symbol-test.true c.loop-symbol.invariant c.in_ok-push.ensures.items c.name.ensures c.in_ok-extend_from_slice.ensures.items

pub returns : goal.returns
returns c = names_done c.args.problem.now c.args.symbols.now c.loop-symbol.symbol-index c.args.out.now.items c.loop-symbol.out.items c.loop-symbol-test.false c.loop-symbol.invariant
