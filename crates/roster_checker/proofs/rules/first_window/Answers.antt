-- What is possible by the cells is the roster's window.
use Rattle.std.proofs.Common.{sym, ◌∙◌}
use Rattle.roster_checker.proofs.ByCells.{no_window, first_window}
use Rattle.roster_checker.proofs.rules.first_window.Goals as goal

pub returns-in-Some : goal.returns-in-Some
returns-in-Some c =
    first_window c.args.problem.now c.args.rule c.args.roster.now.cells c.cells.result c.in-Some.window
    (c.cells.ensures.value ∙ sym c.requires.roster.long) c.in-Some.ensures

pub returns-in-None : goal.returns-in-None
returns-in-None c =
    no_window c.args.problem.now c.args.rule c.args.roster.now.cells c.cells.result
    (c.cells.ensures.value ∙ sym c.requires.roster.long) c.in-None.ensures
