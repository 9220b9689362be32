use Rattle.std.proofs.Common.{refl}
use Rattle.ways_out.specs.Loosened.{exact}
use Rattle.ways_out.proofs.Helping.{log_refutes, none_meets}
use Rattle.ways_out.proofs.Staying.{exact_stays}
use Rattle.ways_out.proofs.numbers.number_verdict.Goals as goal

pub returns-in-Roster : goal.returns-in-Roster
returns-in-Roster g c =
    let roster = c.in-Roster.field-0 in
    let is = rw c.in-Roster.is at c.requires.plan in
    (refl, (roster.cells, exact_stays c.args.asked.now.problem.now c.args.change c.args.steps roster.cells c.requires.change is.0.1))

pub returns-in-NoRoster : goal.returns-in-NoRoster
returns-in-NoRoster g c =
    let P = exact c.args.asked.now.problem.now c.args.change c.args.steps in
    let log = c.in-NoRoster.field-0 in
    let is = rw c.in-NoRoster.is at c.requires.plan in
    none_meets P log.named (log_refutes P log is.0.0 is.0.2.of_kind)
