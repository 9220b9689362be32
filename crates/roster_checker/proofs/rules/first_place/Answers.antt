use Rattle.roster_checker.proofs.ByCells.{window_place}
use Rattle.roster_checker.proofs.rules.first_place.Goals as goal

pub returns-in_default : goal.returns-in_default
returns-in_default c =
    window_place c.args.problem.now c.args.rule c.args.roster.now.cells c.first_window.result c.in_default.not-Day c.first_window.ensures
