use Rattle.roster_page.specs.PageText.{cell_text, cells_text}
use Rattle.roster_page.proofs.Taken.{taken_more, taken_all}
use Rattle.roster_page.proofs.table.put_cells.Goals as goal

pub put_cell-requires : goal.put_cell-requires
put_cell-requires c = c.requires c.loop-i.i _ c.loop-i-test.true

pub loop-i-preserved : goal.loop-i-preserved
loop-i-preserved c = taken_more (cell_text c.args.problem.now) c.args.week.now c.loop-i.i _ c.args.out.now.items _ _ c.loop-i-test.true c.loop-i.invariant c.in_ok-put_cell.ensures

pub returns : goal.returns
unfolding cells_text
returns c =
    taken_all (cell_text c.args.problem.now) c.args.week.now c.loop-i.i c.args.out.now.items _ c.loop-i-test.false c.loop-i.invariant
