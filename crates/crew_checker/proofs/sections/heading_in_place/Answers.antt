use Rattle.crew_size.proofs.Heads.{no_other}
use Rattle.crew_checker.proofs.sections.heading_in_place.Goals as goal

pub returns-else-may_stand : goal.returns-else-may_stand
returns-else-may_stand c =
    no_other c.args.problem.now c.args.sizes c.args.line.now c.in_ok-heading.heading c.in_ok-heading.ensures.0 c.in_ok-heading.ensures.1 c.if-may_stand.ensures
