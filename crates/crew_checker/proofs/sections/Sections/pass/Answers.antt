use Rattle.std.proofs.Common.{◌≡◌, ℕ, ◌<◌, List, ◌++◌, length, Option, ap, sym, ◌∙◌, subst, inl}
use Rattle.crew_size.specs.Places.{Place, MayFollow}
use Rattle.crew_size.specs.Verdict.{HasNoHeadingAt}
use Rattle.crew_size.proofs.Verdicts.{no_heading_here, shorter_behind}
use Rattle.crew_checker.proofs.sections.Sections.pass.Goals as goal

pub returns-in_default-heading_in_place-clause-verdict :
    goal.returns-in_default-heading_in_place-clause-verdict
returns-in_default-heading_in_place-clause-verdict g c = λ text place.
    let P = c.args.problem.now in
    let known : c.self.inside.sizes ≡ c.args.self.now.sizes = ap (λ (p : Place). p.sizes) c.self.view_is in
    let number : c.self.inside.line ≡ c.args.self.now.line = ap (λ (p : Place). p.line) c.self.view_is in
    let left : c.self.inside.rest.now ≡ c.args.self.now.rest = ap (λ (p : Place). p.rest) c.self.view_is in
    let whole : c.args.self.now.rest ≡ c.in-Some.line.now ++ c.next.new.self = sym left ∙ sym c.new-reader.ensures ∙ c.in-Some.ensures.line.1 in
    inl (subst (HasNoHeadingAt P text) (sym number)
    (no_heading_here P text c.args.self.now c.in-Some.line.now c.next.new.self place whole c.in-Some.ensures.end
    (λ h w may. c.in_default-heading_in_place.ensures h w (subst (λ (s : Option (ℕ × ℕ)). MayFollow P s h) (sym known) may))))

pub pass_log-passed-requires-clause-behind : goal.pass_log-passed-requires-clause-behind
pass_log-passed-requires-clause-behind g c = λ κs lives.
    let left : c.self.inside.rest.now ≡ c.args.self.now.rest = ap (λ (p : Place). p.rest) c.self.view_is in
    let whole : c.args.self.now.rest ≡ c.in-Some.line.now ++ c.next.new.self = sym left ∙ sym c.new-reader.ensures ∙ c.in-Some.ensures.line.1 in
    subst (λ (t : List ℕ). length t < length c.args.self.now.rest) (sym c.rest-bytes.ensures) (shorter_behind c.args.self.now.rest c.in-Some.line.now c.next.new.self c.in-Some.ensures.line.0 whole)
