use Rattle.std.proofs.Common.{◌++◌, ap, ◌∙◌}
use Rattle.plain_words.specs.Statements.{told_lines}
use Rattle.plain_words.specs.declared.reason.Rosters.{Rosters}
use Rattle.plain_words.specs.LogTold.{rosters_of, log_statements}
use Rattle.commands.specs.Told.{refuted_statements}
use Rattle.commands.proofs.TellingLines.{two_told}
use Rattle.commands.proofs.best.texts.none_told.Goals as goal

pub returns : goal.returns
returns c =
    let P = c.args.problem.now in
    let g = c.args.log.now in
    let mid = c.put_refuted.new.out.items in
    let said = c.in_ok-put_log_told.ensures ∙ ap (λ (w : Rosters). mid ++ told_lines P (log_statements P w g)) c.rosters_of.ensures in
    two_told P (refuted_statements g) (log_statements P (rosters_of g) g) c.new-out.result.items mid c.put_log_told.new.out.items c.new-out.ensures.items c.in_ok-put_refuted.ensures said
