use Rattle.rwsp_file.specs.Reading.{demand_at}
use Rattle.rwsp_file.specs.declared.misfit.Place.TheVariants.{Demand}
use Rattle.rwsp_file.proofs.ManySteps.{HasRead}
use Rattle.rwsp_file.proofs.fields.read_demand_row.Given as goal

abbrev pub invariant-loop-day : goal.invariant-loop-day
invariant-loop-day l = HasRead (λ day. demand_at (Demand l.shift day)) l.days l.day l.ranges.items l.cursor l.fn.cursor
