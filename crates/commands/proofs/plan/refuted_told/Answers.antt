use Rattle.std.proofs.Common.{[], ◌∷◌, ◌++◌, refl, ap, ◌∙◌}
use Rattle.plain_words.specs.Statements.{plain, told_line, told_lines}
use Rattle.plain_words.specs.declared.pieces.TheConstants.{MEND_LOOKS}
use Rattle.plain_words.proofs.Joined.{three_of}
use Rattle.commands.specs.Told.{refuted_statements}
use Rattle.commands.proofs.plan.refuted_told.Goals as goal

pub returns : goal.returns
returns c =
    let P = c.args.problem.now in
    let refuted = refuted_statements c.args.log.now in
    let said = c.in_ok-put_shortly.ensures in
    let last = plain MEND_LOOKS.now ∷ [] in
    let lines = three_of (told_line P) refuted said.0 last c.new-out.result.items c.put_refuted.new.out.items c.put_shortly.new.out.items c.put_told.new.out.items c.in_ok-put_refuted.ensures said.2 c.in_ok-put_told.ensures in
    (refuted ++ said.0 ++ last, (said.0, said.1, refl), lines ∙ ap (λ t. t ++ told_lines P (refuted ++ said.0 ++ last)) c.new-out.ensures.items)
