use Rattle.roster_print.proofs.Closed.{one_more, all_symbols}
use Rattle.roster_print.proofs.read.symbols_of.Goals as goal

pub loop-cell-preserved : goal.loop-cell-preserved
loop-cell-preserved c = one_more c.args.said.now c.loop-cell.cell-index _ c.or_off.result c.loop-cell.symbols.items c.push.new.self.items c.loop-cell-test.true c.loop-cell.invariant c.or_off.ensures c.in_ok-push.ensures.items

pub returns : goal.returns
returns c = all_symbols c.args.said.now c.loop-cell.cell-index c.loop-cell.symbols.items c.loop-cell-test.false c.loop-cell.invariant
