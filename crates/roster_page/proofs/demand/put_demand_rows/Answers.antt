use Rattle.made_problems.proofs.Pieces.{piece_more}
use Rattle.roster_page.specs.PageText.{demand_row}
use Rattle.roster_page.proofs.demand.put_demand_rows.Goals as goal

pub loop-place-preserved : goal.loop-place-preserved
loop-place-preserved c =
    piece_more (demand_row c.args.problem.now c.args.cells.now) c.loop-place.place c.args.out.now.items c.loop-place.out.items c.put_demand_row.new.out.items c.loop-place.invariant c.in_ok-put_demand_row.ensures
