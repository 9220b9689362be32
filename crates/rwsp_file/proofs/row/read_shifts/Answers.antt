use Rattle.std.proofs.Common.{◌-◌, ◌+◌, ◌∙◌, ap, sym, arith, length, [], ◌∷◌, length-append, List}
use Rattle.rwsp_terms.specs.declared.data.ShiftRow.{ShiftRow}
use Rattle.rwsp_file.specs.Reading.{many, shift_at}
use Rattle.rwsp_file.proofs.ManySteps.{many_ok, loop_fails}
use Rattle.rwsp_file.proofs.row.read_shifts.Goals as goal

pub loop-shift-preserved : goal.loop-shift-preserved
loop-shift-preserved c = (
  ap (λ (all : List ShiftRow). many shift_at (c.args.count - (c.loop-shift.shift + 1)) all c.read_shift.new.cursor) c.in_ok-shifts.ensures
      ∙ sym (many_ok shift_at c.args.count c.loop-shift.shift c.loop-shift.shifts c.loop-shift.cursor _ c.read_shift.new.cursor (omega arith) c.in-Ok.ensures.value)
      ∙ c.loop-shift.invariant.0,
  omega (arith, ap length c.in_ok-shifts.ensures, length-append c.loop-shift.shifts (c.in-Ok.row ∷ []), c.loop-shift.invariant.1),
)

pub with-requires : goal.with-requires
with-requires c = c.in-Ok.ensures.fresh

pub returns-in-Err-clause-value : goal.returns-in-Err-clause-value
returns-in-Err-clause-value c =
    loop_fails (λ (row : ShiftRow). row) (λ (all : List ShiftRow). all) shift_at c.args.count c.loop-shift.shift c.loop-shift.shifts c.loop-shift.cursor _ _ _ _ c.loop-shift.invariant.0 (omega arith) c.in-Err.ensures.value
