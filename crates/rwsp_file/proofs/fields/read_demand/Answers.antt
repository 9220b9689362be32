use Rattle.std.proofs.Common.{◌≡◌, arith, Vec, Global, Err}
use Rattle.rwsp_terms.specs.declared.data.DemandRow.{DemandRow}
use Rattle.rwsp_file.specs.Reading.{each, demand_row_at}
use Rattle.rwsp_file.proofs.ManySteps.{passed_on, read_none, read_more, read_stops, loop_done}
use Rattle.rwsp_file.proofs.fields.read_demand.Goals as goal

pub returns-in_err-row : goal.returns-in_err-row
returns-in_err-row c =
    let same : c.from_residual.result ≡ Err c.in_err-row.field-0.0 = passed_on _ _ c.from_residual.ensures.1 in
    rw same (read_stops (λ (x : DemandRow). x) (λ (v : Vec DemandRow Global). v.items) (demand_row_at c.args.size.days) c.args.size.shifts c.loop-shift.shift c.loop-shift.rows.items c.loop-shift.cursor _ c.read_demand_row.new.cursor _ _ c.loop-shift.invariant (omega arith)
    c.in_err-row.ensures)

pub loop-shift-init : goal.loop-shift-init
loop-shift-init c = read_none (demand_row_at c.args.size.days) c.args.size.shifts c.new-rows.result.items c.args.cursor.now c.new-rows.ensures.items

pub loop-shift-preserved : goal.loop-shift-preserved
loop-shift-preserved c =
    read_more (demand_row_at c.args.size.days) c.args.size.shifts c.loop-shift.shift c.loop-shift.rows.items _ c.in_ok-row.row c.loop-shift.cursor c.read_demand_row.new.cursor _ c.loop-shift.invariant c.loop-shift-test.true
    c.in_ok-row.ensures c.in_ok-push.ensures.items

pub returns : goal.returns
returns c = loop_done (each (demand_row_at c.args.size.days)) c.args.size.shifts c.loop-shift.shift _ _ _ c.loop-shift.invariant.0 c.loop-shift.auto.shift-end c.loop-shift-test.false
