use Rattle.std.proofs.Common.{sym, ◌∙◌}
use Rattle.crew_size.proofs.Heads.{no_other}
use Rattle.crew_checker.proofs.LeastEnds.{no_heading_here}
use Rattle.crew_checker.proofs.least.heading_here.Goals as goal

pub returns-in_default-heading_of-clause-heading : goal.returns-in_default-heading_of-clause-heading
returns-in_default-heading_of-clause-heading c =
    no_heading_here c.args.problem.now c.args.sizes c.args.bytes.now c.in-Some.line.now c.next.new.self (sym c.new-reader.ensures ∙ c.in-Some.ensures.line.1) c.in-Some.ensures.end (λ h written may. c.in_default-heading_of.ensures h written)

pub returns-else-may_stand-clause-heading : goal.returns-else-may_stand-clause-heading
returns-else-may_stand-clause-heading c =
    no_heading_here c.args.problem.now c.args.sizes c.args.bytes.now c.in-Some.line.now c.next.new.self (sym c.new-reader.ensures ∙ c.in-Some.ensures.line.1) c.in-Some.ensures.end
    (no_other c.args.problem.now c.args.sizes c.in-Some.line.now c.in-Some-heading_of.heading c.in-Some-heading_of.ensures.0 c.in-Some-heading_of.ensures.1 c.if-may_stand.ensures)
