use Rattle.std.proofs.Common.{[], ◌∷◌, ◌++◌, ap, ◌∙◌}
use Rattle.plain_words.specs.Statements.{plain, told_lines}
use Rattle.plain_words.specs.declared.reason.Rosters.{Rosters}
use Rattle.plain_words.specs.LogTold.{rosters_of, log_statements}
use Rattle.commands.proofs.TellingLines.{two_told}
use Rattle.commands.proofs.telling.log_told.Goals as goal

pub returns : goal.returns
returns c =
    let P = c.args.problem.now in
    let g = c.args.log.now in
    let mid = c.put_told.new.out.items in
    let said = c.in_ok-put_log_told.ensures ∙ ap (λ (w : Rosters). mid ++ told_lines P (log_statements P w g)) c.rosters_of.ensures in
    two_told P (plain c.args.sentence.now ∷ []) (log_statements P (rosters_of g) g) c.new-out.result.items mid c.put_log_told.new.out.items c.new-out.ensures.items c.in_ok-put_told.ensures said
