use Rattle.std.proofs.Common.{◌≡◌, ℕ, ◌+◌, ◌++◌, take, drop, Option, Some, refl, ap, sym, ◌∙◌, subst, take-append-drop}
use Rattle.refutation_terms.specs.declared.lines.LogKind.TheVariants.{WithoutGoal}
use Rattle.refutation_terms.specs.Verdict.{IsRefused}
use Rattle.crew_size.specs.Sizes.{with_weeks}
use Rattle.crew_size.specs.Sections.{AreUpToHeading}
use Rattle.crew_size.specs.Verdict.{HasRefusedLog}
use Rattle.crew_size.specs.Places.{Place, first_size}
use Rattle.crew_checker.proofs.Refused.{why_refused}
use Rattle.crew_size.proofs.Verdicts.{log_passed, log_refused}
use Rattle.crew_checker.proofs.sections.Sections.pass_log.Goals as goal

pub returns-in-Ok-clause-verdict : goal.returns-in-Ok-clause-verdict
returns-in-Ok-clause-verdict g c = λ text at.
    let P = c.args.problem.now in
    let m = c.args.weeks in
    let bytes = c.args.bytes.now in
    let log = c.split_at.result.0.now in
    let rest = c.split_at.result.1.now in
    let mid = c.section_end.result in
    let front : log ≡ take mid bytes = c.split_at.ensures.front in
    let back : rest ≡ drop mid bytes = c.split_at.ensures.back in
    let whole : bytes ≡ log ++ rest = sym (take-append-drop mid bytes) ∙ ap (λ t. t ++ drop mid bytes) (sym front) ∙ ap (λ t. log ++ t) (sym back) in
    let cut : AreUpToHeading log rest = subst (λ t. AreUpToHeading t rest) (sym front) (subst (AreUpToHeading (take mid bytes)) (sym back) c.section_end.ensures.end) in
    let place : Place = record { sizes = Some (c.first_size.result, m + 1); rest = rest; line = c.self.inside.line + (1 + c.count_feeds.result) } in
    let known : c.self.inside.sizes ≡ c.args.self.now.sizes = ap (λ (p : Place). p.sizes) c.self.view_is in
    let number : c.self.inside.line ≡ c.args.self.now.line = ap (λ (p : Place). p.line) c.self.view_is in
    let sizes : place.sizes ≡ Some (first_size c.args.self.now.sizes m, m + 1) = ap (λ (n : ℕ). Some (n, m + 1)) (c.first_size.ensures ∙ ap (λ (s : Option (ℕ × ℕ)). first_size s m) known) in
    log_passed P text c.args.self.now.sizes c.args.self.now.line m bytes log rest place c.in-Ok.ensures.0 c.in-Ok.ensures.1
    c.requires.next whole cut sizes refl
    (ap (λ n. n + (1 + c.count_feeds.result)) number ∙ ap (λ n. c.args.self.now.line + (1 + n)) c.count_feeds.ensures.value) at

pub returns-in-Err-Refused-clause-verdict : goal.returns-in-Err-Refused-clause-verdict
returns-in-Err-Refused-clause-verdict g c = λ text at.
    let mid = c.section_end.result in
    let bytes = c.args.bytes.now in
    let log = c.split_at.result.0.now in
    let rest = c.split_at.result.1.now in
    let front : log ≡ take mid bytes = c.split_at.ensures.front in
    let back : rest ≡ drop mid bytes = c.split_at.ensures.back in
    let whole : bytes ≡ log ++ rest = sym (take-append-drop mid bytes) ∙ ap (λ t. t ++ drop mid bytes) (sym front) ∙ ap (λ t. log ++ t) (sym back) in
    let cut : AreUpToHeading log rest = subst (λ t. AreUpToHeading t rest) (sym front) (subst (AreUpToHeading (take mid bytes)) (sym back) c.section_end.ensures.end) in
    let P = c.args.problem.now in
    let refused = why_refused _ c.in-Err-Refused.field-0 c.in-Err-Refused.why _ (IsRefused (with_weeks P c.args.weeks) WithoutGoal log) c.in-Err-Refused.field-0-is c.in-Err-Refused.ensures in
    subst (HasRefusedLog P text c.args.weeks) (sym c.in-Err-Refused.why-is)
    (log_refused P text c.args.self.now.sizes c.args.self.now.line c.args.weeks bytes log rest c.in-Err-Refused.why refused c.requires.next whole cut at)
