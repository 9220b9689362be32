use Rattle.std.proofs.Common.{refl, ap, ◌∙◌, ◌++◌, arith}
use Rattle.std.proofs.lemmas.Option.{slice_get_read}
use Rattle.refutation_log.proofs.PrintedTexts.{pieces_all, pieces_step, line_piece, joined_lines}
use Rattle.refutation_log.proofs.print.put_lines.Goals as goal

pub put_line-requires : goal.put_line-requires
put_line-requires c = c.requires _ _ (slice_get_read c.args.lines.now _ _ _ refl c.loop-line-test.true c.line-item.is)

pub loop-line-preserved : goal.loop-line-preserved
loop-line-preserved c =
    pieces_step (line_piece c.args.problem.now c.args.terms.goal) _ _ c.args.out.now.items c.args.lines.now c.loop-line.line-index c.line-item.result c.loop-line-test.true c.line-item.is c.loop-line.invariant c.in_ok-put_line.ensures

pub returns : goal.returns
returns c =
    pieces_all (line_piece c.args.problem.now c.args.terms.goal) _ _ c.args.lines.now _ (omega arith) c.loop-line.invariant ∙ ap (λ t. c.args.out.now.items ++ t) (joined_lines c.args.problem.now c.args.terms.goal c.args.lines.now)
