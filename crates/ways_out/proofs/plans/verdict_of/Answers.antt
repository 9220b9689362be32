use Rattle.ways_out.specs.Loosened.{loosened}
use Rattle.ways_out.proofs.Helping.{log_refutes, none_meets}
use Rattle.ways_out.proofs.plans.verdict_of.Goals as goal

pub returns-in-NoRoster : goal.returns-in-NoRoster
returns-in-NoRoster g c =
    let P = loosened c.args.asked.now.problem.now c.args.change c.args.steps in
    let log = c.in-NoRoster.field-0 in
    let is = rw c.in-NoRoster.is at c.requires.plan in
    none_meets P log.named (log_refutes P log is.0.0 is.0.2.of_kind)
