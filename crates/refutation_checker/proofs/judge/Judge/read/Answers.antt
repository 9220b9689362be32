use Rattle.std.proofs.Common.{subst, sym, ◌∙◌}
use Rattle.std.proofs.lemmas.Bool.{false≢true}
use Rattle.refutation_terms.specs.Verdict.{Spells}
use Rattle.refutation_terms.proofs.LineTables.{spelled_lines_fit}
use Rattle.refutation_checker.specs.LineTexts.{Judging}
use Rattle.refutation_checker.proofs.LineJudging.{read_next, refused_next}
use Rattle.refutation_checker.proofs.judge.Judge.read.Goals as goal

pub pass-requires-clause-line : goal.pass-requires-clause-line
pass-requires-clause-line c =
    let j = c.args.self.now in
    let bytes = c.args.bytes.now in
    let line = c.in-Ok.line in
    let spelled : Spells j.problem j.goal j.counts bytes line = subst (λ (j : Judging). Spells j.problem j.goal j.counts bytes line) c.self.view_is c.in-Ok.ensures in
    (spelled_lines_fit j.problem j.goal j.counts bytes line spelled).0

pub returns-in-Ok-None-clause-read : goal.returns-in-Ok-None-clause-read
returns-in-Ok-None-clause-read c =
    λ o lines state.
    let j = c.args.self.now in
    let bytes = c.args.bytes.now in
    let line = c.in-Ok.line in
    let spelled : Spells j.problem j.goal j.counts bytes line = subst (λ (j : Judging). Spells j.problem j.goal j.counts bytes line) c.self.view_is c.in-Ok.ensures in
    read_next j o lines bytes line c.pass.new.walk spelled
    (λ tree. absurd (false≢true (sym c.if-is_whole.false ∙ (c.is_whole.ensures.tree j.problem o lines state).1 tree)))
    ((rw c.in-Ok-None.field-0-is at c.in-Ok-None.ensures.passed) o lines state)

pub returns-in-Ok-Some-clause-read : goal.returns-in-Ok-Some-clause-read
returns-in-Ok-Some-clause-read c =
    λ o lines state is.
    let j = c.args.self.now in
    let bytes = c.args.bytes.now in
    let line = c.in-Ok.line in
    let spelled : Spells j.problem j.goal j.counts bytes line = subst (λ (j : Judging). Spells j.problem j.goal j.counts bytes line) c.self.view_is c.in-Ok.ensures in
    refused_next j o lines bytes line c.args.number c.in-Ok-Some.why spelled
    (λ tree. absurd (false≢true (sym c.if-is_whole.false ∙ (c.is_whole.ensures.tree j.problem o lines state).1 tree)))
    is
    ((rw c.in-Ok-Some.field-0-is at c.in-Ok-Some.ensures.passed) o lines state)
