use Rattle.made_problems.proofs.Pieces.{piece_more}
use Rattle.roster_page.specs.PageText.{week_row}
use Rattle.roster_page.proofs.table.put_week_rows.Goals as goal

pub loop-week-preserved : goal.loop-week-preserved
loop-week-preserved c =
    piece_more (week_row c.args.problem.now c.args.cells.now) c.loop-week.week c.args.out.now.items c.loop-week.out.items c.put_week_row.new.out.items c.loop-week.invariant c.in_ok-put_week_row.ensures
