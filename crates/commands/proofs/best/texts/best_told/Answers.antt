use Rattle.std.proofs.Common.{[], ◌∷◌, ◌++◌, ap, ◌∙◌}
use Rattle.refutation_terms.specs.FreeWeekends.{free_weekends}
use Rattle.plain_words.specs.Statements.{Says, told_lines}
use Rattle.plain_words.specs.declared.part.Part.TheVariants.{Weekends}
use Rattle.plain_words.specs.declared.pieces.TheConstants.{HAS_WEEKENDS}
use Rattle.plain_words.specs.declared.reason.Rosters.{Rosters}
use Rattle.plain_words.specs.LogTold.{rosters_of, log_statements}
use Rattle.commands.proofs.TellingLines.{two_told}
use Rattle.commands.proofs.best.texts.best_told.Goals as goal

pub returns : goal.returns
returns c =
    let P = c.args.problem.now in
    let g = c.args.proof.now in
    let old = c.new-out.result.items in
    let mid = c.put_told.new.out.items in
    let counted = c.in_ok-put_told.ensures ∙ ap (λ n. old ++ told_lines P (Says HAS_WEEKENDS.now (Weekends n ∷ []) ∷ [])) c.free_weekends.ensures.value in
    let said = c.in_ok-put_log_told.ensures ∙ ap (λ (w : Rosters). mid ++ told_lines P (log_statements P w g)) c.rosters_of.ensures in
    two_told P (Says HAS_WEEKENDS.now (Weekends (free_weekends c.args.roster.now.cells) ∷ []) ∷ []) (log_statements P (rosters_of g) g) old mid c.put_log_told.new.out.items c.new-out.ensures.items counted said
