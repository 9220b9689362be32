use Rattle.std.proofs.Common.{◌≡◌, ℕ, Bool, Option, ◌∙◌, List, length, get_or, take, refl, ap, sym, subst, arith, Some}
use Rattle.std.specs.Prelude.{slice_get}
use Rattle.std.proofs.lemmas.Option.{slice_get_read}
use Rattle.refutation_terms.specs.declared.lines.Line.{Line}
use Rattle.refutation_terms.specs.Tree.{IsTree}
use Rattle.refutation_terms.specs.Log.{Log, LineFits}
use Rattle.refutation_terms.specs.Verdict.{header_lines}
use Rattle.refutation_checker.specs.LineTexts.{Judging}
use Rattle.refutation_checker.proofs.Passing.{no_front, still_part, passed_next}
use Rattle.refutation_checker.proofs.log_check.pass_at.Goals as goal

pub pass-requires-clause-part : goal.pass-requires-clause-part
pass-requires-clause-part c =
    let g = c.args.log.now in
    let tree = subst (λ (h : Log). IsTree h.lines) c.log.view_is c.lines-lines.ensures.tree in
    still_part c.args.judge.now.problem g.opening (take c.args.i g.lines) c.args.walk.now c.requires.before.walked (no_front g.lines c.args.i tree c.requires.place)

pub pass-requires-clause-line : goal.pass-requires-clause-line
pass-requires-clause-line c =
    let g = c.args.log.now in
    let line = c.index-lines-i.result in
    let same : c.lines-lines.result.now ≡ g.lines = c.lines-lines.ensures.value ∙ ap (λ (h : Log). h.lines) c.log.view_is in
    let read : line ≡ get_or g.lines c.args.i line = subst (λ (ls : List Line). line ≡ get_or ls c.args.i line) same c.index-lines-i.is in
    subst (λ (J : Judging). LineFits J.problem J.goal J.counts line) (sym c.requires.judge)
    (c.requires.fits.lines c.args.i line (slice_get_read g.lines (length g.lines) c.args.i line refl c.requires.place read))

pub returns-clause-passed : goal.returns-clause-passed
returns-clause-passed c =
    let g = c.args.log.now in
    let J = c.args.judge.now in
    let line = c.index-lines-i.result in
    let same : c.lines-lines.result.now ≡ g.lines = c.lines-lines.ensures.value ∙ ap (λ (h : Log). h.lines) c.log.view_is in
    let read : line ≡ get_or g.lines c.args.i line = subst (λ (ls : List Line). line ≡ get_or ls c.args.i line) same c.index-lines-i.is in
    let here : slice_get g.lines c.args.i ≡ Some line = slice_get_read g.lines (length g.lines) c.args.i line refl c.requires.place read in
    let o = c.log.inside.opening.now in
    let header : c.lines_of_header.result ≡ header_lines g.opening g.goal g.counts =
    c.lines_of_header.ensures.value
    ∙ ap (λ (n : Option ℕ). header_lines o n c.terms.result.counts) c.terms.ensures.goal
    ∙ ap (λ (m : Bool). header_lines o c.log.inside.log.now.goal m) c.terms.ensures.counts
    ∙ ap (λ (h : Log). header_lines h.opening h.goal h.counts) c.log.view_is in
    let tree = subst (λ (h : Log). IsTree h.lines) c.log.view_is c.lines-lines.ensures.tree in
    passed_next J.problem J g c.args.i _ line c.args.walk.now c.pass.new.walk c.pass.result c.requires.judge c.requires.fits tree here c.requires.before (omega (arith, header)) c.pass.ensures.passed
