use Rattle.std.proofs.Common.{◌++◌, ap, sym, ◌∙◌, map}
use Rattle.std.specs.List.{flat_map}
use Rattle.std.proofs.lemmas.List.{append-nil}
use Rattle.rwsp_file.specs.Text.{file_line}
use Rattle.rwsp_file.specs.Spelling.{sequence_fields}
use Rattle.rwsp_file.proofs.TextSteps.{lines_more, lines_all}
use Rattle.rwsp_file.proofs.print.put_sequences.Goals as goal

pub loop-i-init : goal.loop-i-init
loop-i-init c = sym (append-nil c.args.out.now.items)

pub put_sequence-requires : goal.put_sequence-requires
put_sequence-requires c = c.sequences-sequences.ensures.known c.loop-i.i _ c.loop-i-test.true

pub loop-i-preserved : goal.loop-i-preserved
loop-i-preserved c = lines_more (sequence_fields c.args.problem.now) c.sequences-sequences.result.now c.loop-i.i _ c.args.out.now.items _ _ c.loop-i-test.true c.loop-i.invariant c.in_ok-put_sequence.ensures

pub returns : goal.returns
returns c =
    lines_all (sequence_fields c.args.problem.now) c.sequences-sequences.result.now c.loop-i.i c.args.out.now.items _ c.loop-i-test.false c.loop-i.invariant
    ∙ ap (λ xs. c.args.out.now.items ++ flat_map file_line (map (sequence_fields c.args.problem.now) xs)) c.sequences-sequences.ensures.value
