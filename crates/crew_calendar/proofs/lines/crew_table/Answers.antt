use Rattle.crew_calendar.proofs.Rounds.{is_staffed, some_cells}
use Rattle.crew_calendar.proofs.Standing.{follows_cycle, is_clean, goes_round}
use Rattle.crew_calendar.proofs.lines.crew_table.Goals as goal

pub returns-clause-staffed : goal.returns-clause-staffed
returns-clause-staffed c meets =
    let P = c.args.problem.now in
    let limits = c.prove_limits.ensures in
    is_staffed P c.args.roster.now.cells (some_cells P.weeks P.days limits.some_weeks limits.some_days) limits.some_days meets

pub returns-clause-cycle : goal.returns-clause-cycle
returns-clause-cycle c = follows_cycle c.args.problem.now c.args.roster.now.cells c.requires.roster

pub returns-clause-clean : goal.returns-clause-clean
returns-clause-clean c meets =
    let P = c.args.problem.now in
    let limits = c.prove_limits.ensures in
    is_clean P c.args.roster.now.cells (some_cells P.weeks P.days limits.some_weeks limits.some_days) meets

pub returns-clause-round : goal.returns-clause-round
returns-clause-round c =
    let P = c.args.problem.now in
    let limits = c.prove_limits.ensures in
    goes_round P (some_cells P.weeks P.days limits.some_weeks limits.some_days)
