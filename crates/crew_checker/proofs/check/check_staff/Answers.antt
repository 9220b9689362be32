use Rattle.std.proofs.Common.{rules, ◌≡◌, Option}
use Rattle.std.specs.Prelude.{Err, MatchOption}
use Rattle.crew_size.specs.Places.{IsPlace}
use Rattle.crew_size.specs.Verdict.{IsStaffAccepted, IsStaffRefused}
use Rattle.crew_size.specs.declared.verdict.Staffed.{Staffed}
use Rattle.crew_checker.proofs.Refused.{refused_again}
use Rattle.crew_checker.proofs.check.check_staff.Goals as goal

pub returns-in_err-staffed : goal.returns-in_err-staffed
returns-in_err-staffed g c =
    let P = c.args.problem.now in
    let text = c.args.bytes.now in
    let same : c.from_residual.result ≡ Err c.in_err-staffed.field-0.0 = search rules in
    refused_again (Option Staffed) c.in_err-staffed.field-0.0 c.from_residual.result
    (λ found. MatchOption found (IsPlace P text c.pass.new.self) (IsStaffAccepted P text)) (IsStaffAccepted P text) (IsStaffRefused P text) same
    (c.in_err-staffed.ensures.verdict text c.loop-staffed.invariant.place)

pub returns-in-Some : goal.returns-in-Some
returns-in-Some g c = rw c.in-Some.is at (c.in_ok-staffed.ensures.verdict c.args.bytes.now c.loop-staffed.invariant.place)
