use Rattle.std.proofs.Common.{subst}
use Rattle.crew_size.specs.declared.heading.Heading.{Heading}
use Rattle.crew_checker.proofs.LeastEnds.{IsHere, no_section, other_section, no_log_no_section}
use Rattle.crew_checker.proofs.least.section.Goals as goal

pub returns-in_default-clause-section : goal.returns-in_default-clause-section
returns-in_default-clause-section c = no_section c.args.problem.now c.args.sizes c.args.bytes.now c.in_default.ensures.heading

pub returns-in_default-heading : goal.returns-in_default-heading
returns-in_default-heading c = record {
  section = other_section c.args.problem.now c.args.sizes c.args.bytes.now c.in-Some.heading c.in-Some.behind.now c.in-Some.ensures.heading c.in_default-heading.not-Refuted;
  shorter = tt;
}

pub returns-in-None-clause-section : goal.returns-in-None-clause-section
returns-in-None-clause-section c =
    let P = c.args.problem.now in
    let behind = c.in-Some.behind.now in
    let here = subst (λ (h : Heading). IsHere P c.args.sizes c.args.bytes.now h behind) c.in-Refuted.is c.in-Some.ensures.heading in
    no_log_no_section P c.args.sizes c.args.bytes.now c.in-Refuted.weeks behind here.0 here.2 (rw c.in-None.is at c.in_ok-rest.ensures.log)
