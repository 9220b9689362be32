use Rattle.std.proofs.Common.{◌-◌, sym, arith, ◌∙◌, ap}
use Rattle.rwsp_terms.specs.declared.data.Class.{Class}
use Rattle.rwsp_model.specs.Parts.{instance_of}
use Rattle.ways_out.specs.Loosened.{with_bounds}
use Rattle.ways_out.proofs.Valid.{rows_set}
use Rattle.ways_out.proofs.loosening.set_bounds.Goals as goal

pub returns-in-Shift : goal.returns-in-Shift
returns-in-Shift c =
    let P = instance_of c.args.parts.now in
    let shift = rw c.in-Shift.is at c.requires in
    let low = shift.0 in
    let high = shift.1 in
    rows_set P (c.in-Shift.shift.number - 1) c.args.bounds c.index_mut.result.now (omega (arith, low, high)) c.index_mut.ensures.value
    ∙ ap (λ (k : Class). with_bounds P k (λ _. c.args.bounds)) (sym c.in-Shift.is)
