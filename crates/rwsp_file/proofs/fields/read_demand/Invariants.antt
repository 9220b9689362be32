use Rattle.rwsp_file.specs.Reading.{demand_row_at}
use Rattle.rwsp_file.proofs.ManySteps.{HasRead}
use Rattle.rwsp_file.proofs.fields.read_demand.Given as goal

abbrev pub invariant-loop-shift : goal.invariant-loop-shift
invariant-loop-shift l = HasRead (demand_row_at l.size.days) l.size.shifts l.shift l.rows.items l.cursor l.fn.cursor
