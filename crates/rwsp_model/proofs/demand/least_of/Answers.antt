-- Of the day off what is left, of a shift what is demanded.
use Rattle.std.proofs.Common.{◌≡◌, ap, ◌∙◌, arith, w32}
use Rattle.std.specs.Prelude.{pos, ◌-ℤ◌}
use Rattle.std.proofs.lemmas.Int.{ints, to_z-of_z, to_z_pos}
use Rattle.rwsp_terms.specs.Instance.{least}
use Rattle.rwsp_model.specs.Parts.{instance_of}
use Rattle.rwsp_model.proofs.Numbers.{rows_have_day, least_of_off, least_of_shift}
use Rattle.rwsp_model.proofs.demand.least_of.Goals as goal

pub column_range-requires-clause-rows : goal.column_range-requires-clause-rows
column_range-requires-clause-rows c =
    rw c.deref.ensures.value (rows_have_day (instance_of c.args.parts.now) c.args.day c.requires.limits c.requires.day)

pub returns-then-symbol-eq0-clause-value : goal.returns-then-symbol-eq0-clause-value
returns-then-symbol-eq0-clause-value c =
    let P = instance_of c.args.parts.now in
    let demanded = rw c.deref.ensures.value at c.column_range.ensures.greatest in
    let left : c.weeks_left.result ≡ least P c.args.symbol.number c.args.day = c.weeks_left.ensures.value ∙ ap (λ n. pos P.weeks -ℤ pos n) demanded ∙ least_of_off P c.args.symbol.number c.args.day c.if-symbol-eq0.true in
    to_z-of_z w32 _ (omega (arith, ints, c.weeks_left.ensures.above, c.weeks_left.ensures.below)) ∙ left

pub returns-else-symbol-eq0-clause-value : goal.returns-else-symbol-eq0-clause-value
returns-else-symbol-eq0-clause-value c =
    let P = instance_of c.args.parts.now in
    to_z_pos w32 _ (omega (arith, c.shift_range.ensures.small.0, c.shift_range.ensures.small.1)) ∙ ap (λ b. pos b.least) c.shift_range.ensures.value
    ∙ least_of_shift P c.args.symbol.number c.args.day c.if-symbol-eq0.false
