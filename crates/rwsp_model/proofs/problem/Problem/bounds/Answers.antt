-- The bounds of a shift are in its row.
use Rattle.std.proofs.Common.{◌-◌, ap, sym, ◌∙◌}
use Rattle.std.specs.Prelude.{slice_get}
use Rattle.rwsp_terms.specs.Instance.{bounds, bounds_of}
use Rattle.rwsp_terms.specs.declared.data.Class.TheVariants.{Shift}
use Rattle.rwsp_model.proofs.Numbers.{block_is_small}
use Rattle.rwsp_model.proofs.problem.Problem.bounds.Goals as goal

pub returns-in-Shift-clause-value : goal.returns-in-Shift-clause-value
returns-in-Shift-clause-value c =
    let read = rw c.deref.ensures.value at c.row_of.ensures in
    ap bounds_of (sym read) ∙ ap (λ P. bounds P (Shift c.in-Shift.shift)) c.self.view_is ∙ ap (bounds c.args.self.now) (sym c.in-Shift.is)

pub returns-in-Shift-clause-small : goal.returns-in-Shift-clause-small
returns-in-Shift-clause-small c =
    let read = rw c.deref.ensures.value at c.row_of.ensures in
    let place = c.in-Shift.shift.number - 1 in
    block_is_small c.args.self.now place _ c.prove_limits.ensures (sym (ap (λ P. slice_get P.shifts place) c.self.view_is) ∙ read)
