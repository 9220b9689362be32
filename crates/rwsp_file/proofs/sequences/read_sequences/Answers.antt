use Rattle.std.proofs.Common.{◌≡◌, ◌+◌, arith, Vec, Global, Err}
use Rattle.rwsp_terms.specs.declared.data.Sequence.{Sequence}
use Rattle.rwsp_file.specs.Reading.{each, numbered_at}
use Rattle.rwsp_file.proofs.ManySteps.{passed_on, read_ok, read_fails, read_none, read_more, read_stops, loop_done}
use Rattle.rwsp_file.proofs.sequences.read_sequences.Goals as goal

pub returns-in_err-sequence : goal.returns-in_err-sequence
returns-in_err-sequence c =
    let same : c.from_residual.result ≡ Err c.in_err-sequence.field-0.0 = passed_on _ _ c.from_residual.ensures.1 in
    rw same (read_stops (λ (x : Sequence). x) (λ (v : Vec Sequence Global). v.items) (numbered_at c.args.shifts.now c.args.frame.pairs) (c.args.frame.pairs + c.args.frame.triples) c.loop-i.i c.loop-i.sequences.items c.loop-i.cursor _ c.read_numbered.new.cursor _ _ c.loop-i.invariant (omega arith)
    (read_fails _ c.read_numbered.result c.map_err.result _ _ c.in_err-sequence.was c.map_err.ensures.cases c.read_numbered.ensures))

pub loop-i-init : goal.loop-i-init
loop-i-init c = read_none (numbered_at c.args.shifts.now c.args.frame.pairs) (c.args.frame.pairs + c.args.frame.triples) c.new-sequences.result.items c.args.cursor.now c.new-sequences.ensures.items

pub loop-i-preserved : goal.loop-i-preserved
loop-i-preserved c =
    read_more (numbered_at c.args.shifts.now c.args.frame.pairs) (c.args.frame.pairs + c.args.frame.triples) c.loop-i.i c.loop-i.sequences.items _ c.in_ok-sequence.sequence c.loop-i.cursor c.read_numbered.new.cursor _ c.loop-i.invariant c.loop-i-test.true
    (read_ok _ c.read_numbered.result c.map_err.result c.in_ok-sequence.sequence _ _ c.in_ok-sequence.was c.map_err.ensures.cases c.read_numbered.ensures) c.in_ok-push.ensures.items

pub returns : goal.returns
returns c = loop_done (each (numbered_at c.args.shifts.now c.args.frame.pairs)) (c.args.frame.pairs + c.args.frame.triples) c.loop-i.i _ _ _ c.loop-i.invariant.0 c.loop-i.auto.i-end c.loop-i-test.false
