use Rattle.plain_words.specs.LogTold.{staff_statements}
use Rattle.commands.specs.Staff.{spent_statements}
use Rattle.commands.proofs.TellingLines.{two_told}
use Rattle.commands.proofs.staff.run_told.Goals as goal

pub returns : goal.returns
returns c =
    let P = c.args.problem.now in
    let run = c.args.run.now in
    let spent = rw c.end.ensures at c.in_ok-put_spent.ensures in
    two_told P (spent_statements run.end) (staff_statements P run) c.new-out.result.items c.put_spent.new.out.items c.put_staff_told.new.out.items c.new-out.ensures.items spent c.in_ok-put_staff_told.ensures
