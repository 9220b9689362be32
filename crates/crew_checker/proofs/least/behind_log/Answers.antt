use Rattle.std.proofs.Common.{◌≡◌, ◌++◌, take, drop, ap, sym, ◌∙◌, subst, take-append-drop}
use Rattle.crew_size.specs.Sections.{AreUpToHeading}
use Rattle.crew_checker.proofs.LeastEnds.{no_log}
use Rattle.crew_checker.proofs.least.behind_log.Goals as goal

pub returns-in-Err-Refused-clause-log : goal.returns-in-Err-Refused-clause-log
returns-in-Err-Refused-clause-log c =
    let bytes = c.args.bytes.now in
    let log = c.split_at.result.0.now in
    let rest = c.split_at.result.1.now in
    let mid = c.section_end.result in
    let front : log ≡ take mid bytes = c.split_at.ensures.front in
    let back : rest ≡ drop mid bytes = c.split_at.ensures.back in
    let whole : bytes ≡ log ++ rest = sym (take-append-drop mid bytes) ∙ ap (λ t. t ++ drop mid bytes) (sym front) ∙ ap (λ t. log ++ t) (sym back) in
    let cut : AreUpToHeading log rest = subst (λ t. AreUpToHeading t rest) (sym front) (subst (AreUpToHeading (take mid bytes)) (sym back) c.section_end.ensures.end) in
    no_log c.args.problem.now _ c.args.weeks bytes log rest _ c.prove_limits.ensures c.in_ok-sized.ensures whole cut (rw c.in-Err-Refused.field-0-is at c.in-Err-Refused.ensures)
