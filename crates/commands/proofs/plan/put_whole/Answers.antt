use Rattle.std.proofs.Common.{[], ◌∷◌, ◌++◌, refl}
use Rattle.plain_words.specs.Statements.{plain, told_line}
use Rattle.plain_words.specs.LogTold.{log_statements}
use Rattle.plain_words.specs.declared.reason.Rosters.TheVariants.{Every}
use Rattle.plain_words.specs.declared.pieces.TheConstants.{REDUCE_MAY}
use Rattle.plain_words.proofs.Joined.{behind}
use Rattle.commands.proofs.plan.put_whole.Goals as goal

pub returns : goal.returns
returns c =
    let P = c.args.problem.now in
    let whole = log_statements P Every c.args.log.now in
    let last = plain REDUCE_MAY.now ∷ [] in
    (whole ++ last, refl, behind (told_line P) whole last c.args.out.now.items c.put_log_told.new.out.items c.put_told.new.out.items c.in_ok-put_log_told.ensures c.in_ok-put_told.ensures)
