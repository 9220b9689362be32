use Rattle.std.proofs.Common.{ap, ◌∙◌, ◌++◌, arith}
use Rattle.refutation_log.proofs.PrintedTexts.{pieces_all, pieces_put, number_piece, spaced_numbers}
use Rattle.refutation_log.proofs.fields.put_numbers.Goals as goal

pub returns : goal.returns
returns c =
    pieces_all number_piece _ _ c.args.all.now _ (omega arith) c.loop-number.invariant ∙ ap (λ t. c.args.out.now.items ++ t) (spaced_numbers c.args.all.now)

pub loop-number-preserved : goal.loop-number-preserved
loop-number-preserved c =
    pieces_put number_piece _ _ _ c.args.all.now _ 0 c.loop-number-test.true c.loop-number.invariant c.in_ok-put_count.ensures
