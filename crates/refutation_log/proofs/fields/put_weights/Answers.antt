use Rattle.std.proofs.Common.{ap, ◌∙◌, ◌++◌, arith}
use Rattle.refutation_log.proofs.PrintedTexts.{pieces_all, pieces_put, weight_piece, spaced_weights}
use Rattle.refutation_log.proofs.fields.put_weights.Goals as goal

pub returns : goal.returns
returns c =
    pieces_all (weight_piece c.args.problem.now) _ _ c.args.entries.now _ (omega arith) c.loop-entry.invariant ∙ ap (λ t. c.args.out.now.items ++ t) (spaced_weights c.args.problem.now c.args.entries.now)

pub put_weight-requires : goal.put_weight-requires
put_weight-requires c = (c.requires _ _ c.loop-entry-test.true).1

pub loop-entry-preserved : goal.loop-entry-preserved
loop-entry-preserved c =
    pieces_put (weight_piece c.args.problem.now) _ _ _ c.args.entries.now _ _ c.loop-entry-test.true c.loop-entry.invariant c.in_ok-put_weight.ensures
