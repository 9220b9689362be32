use Rattle.std.proofs.Common.{◌∙◌}
use Rattle.made_problems.specs.Generated.{count_on}
use Rattle.made_problems.proofs.Lengths.{row_more}
use Rattle.made_problems.proofs.counts.demand_row.Goals as goal

pub loop-day-preserved : goal.loop-day-preserved
loop-day-preserved c =
    c.in_ok-push.ensures.items
    ∙ row_more (count_on c.args.weeks c.args.cells.now c.args.x.number) c.loop-day.day c.loop-day.ranges.items c.count_on-count.result c.loop-day.invariant c.count_on-count.ensures.value
