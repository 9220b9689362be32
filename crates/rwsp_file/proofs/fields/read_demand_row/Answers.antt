use Rattle.std.proofs.Common.{◌≡◌, ℕ, List, arith, Err, Ok, ap, sym, ◌∙◌, Result}
use Rattle.rwsp_terms.specs.declared.data.Bounds.{Bounds}
use Rattle.rwsp_file.specs.declared.misfit.Place.TheVariants.{Demand}
use Rattle.rwsp_file.specs.declared.misfit.Misfit.{Misfit}
use Rattle.rwsp_file.specs.Reading.{Unread, each, demand_at}
use Rattle.rwsp_file.proofs.ManySteps.{passed_on, read_ok, read_fails, read_none, read_more, read_stops, loop_done}
use Rattle.rwsp_file.proofs.fields.read_demand_row.Goals as goal

abbrev of_day : ℕ → ℕ → Unread → Result (Bounds × Unread) Misfit
of_day shift day = demand_at (Demand shift day)

pub returns-in_err-range : goal.returns-in_err-range
returns-in_err-range c =
    let same : c.from_residual.result ≡ Err c.in_err-range.field-0.0 = passed_on _ _ c.from_residual.ensures.1 in
    rw same (read_stops (λ (x : Bounds). x) (λ (row : List Bounds). row) (of_day c.args.shift) c.args.days c.loop-day.day c.loop-day.ranges.items c.loop-day.cursor _ c.read_demand_of_day.new.cursor _ _ c.loop-day.invariant (omega arith)
    (read_fails _ c.read_demand_of_day.result c.map_err.result _ _ c.in_err-range.was c.map_err.ensures.cases c.read_demand_of_day.ensures))

pub loop-day-init : goal.loop-day-init
loop-day-init c = read_none (of_day c.args.shift) c.args.days c.new-ranges.result.items c.args.cursor.now c.new-ranges.ensures.items

pub loop-day-preserved : goal.loop-day-preserved
loop-day-preserved c =
    read_more (of_day c.args.shift) c.args.days c.loop-day.day c.loop-day.ranges.items _ c.in_ok-range.range c.loop-day.cursor c.read_demand_of_day.new.cursor _ c.loop-day.invariant c.loop-day-test.true
    (read_ok _ c.read_demand_of_day.result c.map_err.result c.in_ok-range.range _ _ c.in_ok-range.was c.map_err.ensures.cases c.read_demand_of_day.ensures) c.in_ok-push.ensures.items

pub returns : goal.returns
returns c = loop_done (each (of_day c.args.shift)) c.args.days c.loop-day.day _ _ _ c.loop-day.invariant.0 c.loop-day.auto.day-end c.loop-day-test.false ∙ ap (λ (row : List Bounds). Ok (row, c.loop-day.cursor)) (sym c.of.ensures)
