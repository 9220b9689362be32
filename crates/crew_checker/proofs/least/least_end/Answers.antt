use Rattle.std.proofs.Common.{subst}
use Rattle.crew_size.specs.declared.heading.Heading.{Heading}
use Rattle.crew_checker.proofs.LeastEnds.{IsHere, no_end, other_end, no_roster_no_end}
use Rattle.crew_checker.proofs.least.least_end.Goals as goal

pub returns-in_default-clause-end : goal.returns-in_default-clause-end
returns-in_default-clause-end c = no_end c.args.problem.now c.args.sizes c.args.bytes.now c.in_default.ensures.heading

pub returns-in_default-heading : goal.returns-in_default-heading
returns-in_default-heading c = record {
  end = other_end c.args.problem.now c.args.sizes c.args.bytes.now c.in-Some.heading c.in-Some.behind.now c.in-Some.ensures.heading c.in_default-heading.not-Found;
  size = tt;
  roster = tt;
  days = tt;
}

pub returns-in-None-clause-end : goal.returns-in-None-clause-end
returns-in-None-clause-end c =
    let P = c.args.problem.now in
    let behind = c.in-Some.behind.now in
    let here = subst (λ (h : Heading). IsHere P c.args.sizes c.args.bytes.now h behind) c.in-Found.is c.in-Some.ensures.heading in
    no_roster_no_end P c.args.sizes c.args.bytes.now c.in-Found.weeks behind here.0 here.2 (rw c.in-None.is at c.in_ok-roster.ensures.spelled)
