use Rattle.std.proofs.Common.{[], ◌∷◌, ◌++◌, ap, ◌∙◌}
use Rattle.plain_words.specs.Statements.{plain, told_line, told_lines}
use Rattle.plain_words.specs.LogTold.{end_statement}
use Rattle.plain_words.specs.declared.pieces.TheConstants.{NONE_HERE}
use Rattle.plain_words.proofs.Joined.{behind}
use Rattle.commands.proofs.telling.put_refuted.Goals as goal

pub returns : goal.returns
returns c =
    let P = c.args.problem.now in
    let mid = c.put_told.new.out.items in
    let ended = c.in_ok-put_end_told.ensures ∙ ap (λ lines. mid ++ told_lines P (end_statement lines ∷ [])) c.lines.ensures.value in
    behind (told_line P) (plain NONE_HERE.now ∷ []) (end_statement c.args.log.now.lines ∷ []) c.args.out.now.items mid c.put_end_told.new.out.items c.in_ok-put_told.ensures ended
