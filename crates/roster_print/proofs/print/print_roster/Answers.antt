use Rattle.roster_print.proofs.Printing.{print_more}
use Rattle.roster_print.proofs.print.print_roster.Goals as goal

pub loop-week-preserved : goal.loop-week-preserved
loop-week-preserved c = print_more c.args.problem.now c.cells-cells.result.now c.loop-week.week c.days-days.result c.loop-week.out.items c.put_week.new.out.items c.days-days.ensures.value c.loop-week.invariant c.in_ok-put_week.ensures
