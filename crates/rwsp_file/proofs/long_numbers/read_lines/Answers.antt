use Rattle.std.proofs.Common.{◌≡◌, arith, Vec, Global, Err, Option}
use Rattle.rwsp_file.specs.declared.long_numbers.LongNumber.{LongNumber}
use Rattle.rwsp_file.specs.Reading.{each}
use Rattle.rwsp_file.specs.LongNumbers.{long_number_at}
use Rattle.rwsp_file.proofs.ManySteps.{passed_on, read_ok, read_fails, read_none, read_more, read_stops, loop_done}
use Rattle.rwsp_file.proofs.long_numbers.read_lines.Goals as goal

pub returns-in_err-number : goal.returns-in_err-number
returns-in_err-number c =
    let same : c.from_residual.result ≡ Err c.in_err-number.field-0.0 = passed_on _ _ c.from_residual.ensures.1 in
    rw same (read_stops (λ (x : Option LongNumber). x) (λ (v : Vec (Option LongNumber) Global). v.items) long_number_at c.args.count c.loop-i.i c.loop-i.lines.items c.loop-i.cursor _ c.read_long_number.new.cursor _ _ c.loop-i.invariant (omega arith)
    (read_fails _ c.read_long_number.result c.map_err.result _ _ c.in_err-number.was c.map_err.ensures.cases c.read_long_number.ensures))

pub loop-i-init : goal.loop-i-init
loop-i-init c = read_none long_number_at c.args.count c.new-lines.result.items c.args.cursor.now c.new-lines.ensures.items

pub loop-i-preserved : goal.loop-i-preserved
loop-i-preserved c =
    read_more long_number_at c.args.count c.loop-i.i c.loop-i.lines.items _ c.in_ok-number.number c.loop-i.cursor c.read_long_number.new.cursor _ c.loop-i.invariant c.loop-i-test.true
    (read_ok _ c.read_long_number.result c.map_err.result c.in_ok-number.number _ _ c.in_ok-number.was c.map_err.ensures.cases c.read_long_number.ensures) c.in_ok-push.ensures.items

pub returns : goal.returns
returns c = loop_done (each long_number_at) c.args.count c.loop-i.i _ _ _ c.loop-i.invariant.0 c.loop-i.auto.i-end c.loop-i-test.false
