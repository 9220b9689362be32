-- The row of the shift has a small range for the day.
use Rattle.std.proofs.Common.{◌∙◌}
use Rattle.rwsp_model.specs.Parts.{instance_of}
use Rattle.rwsp_model.proofs.Numbers.{row_has_day, shift_range_is}
use Rattle.rwsp_model.proofs.demand.shift_range.Goals as goal

pub range_at-requires-clause-day : goal.range_at-requires-clause-day
range_at-requires-clause-day c =
    rw c.ranges-2.ensures (c.requires.day.0, (row_has_day (instance_of c.args.parts.now) c.args.shift.number c.args.day _ c.requires.limits c.requires.shift c.requires.day c.index.ensures).0)

pub range_at-requires-clause-small : goal.range_at-requires-clause-small
range_at-requires-clause-small c =
    rw c.ranges-2.ensures (row_has_day (instance_of c.args.parts.now) c.args.shift.number c.args.day _ c.requires.limits c.requires.shift c.requires.day c.index.ensures).1

pub returns-clause-value : goal.returns-clause-value
returns-clause-value c =
    let range = rw c.ranges-2.ensures at c.range_at.ensures.value in
    range ∙ shift_range_is (instance_of c.args.parts.now) c.args.shift.number c.args.day _ c.requires.limits c.requires.shift c.index.ensures
