use Rattle.made_problems.proofs.Pieces.{piece_more}
use Rattle.roster_page.specs.PageText.{demand_cell}
use Rattle.roster_page.proofs.demand.put_demand_cells.Goals as goal

pub loop-day-preserved : goal.loop-day-preserved
loop-day-preserved c =
    piece_more (demand_cell c.args.problem.now c.args.cells.now c.args.place) c.loop-day.day c.args.out.now.items c.loop-day.out.items c.put_demand_cell.new.out.items c.loop-day.invariant c.in_ok-put_demand_cell.ensures
