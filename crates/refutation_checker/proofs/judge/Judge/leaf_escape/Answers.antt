-- The automaton is of the problem of the judge.
use Rattle.std.proofs.Common.{subst, sym}
use Rattle.rwsp_terms.specs.Instance.{Instance}
use Rattle.refutation_terms.specs.Log.{LineFits}
use Rattle.domain_store.specs.Store.{has_domain}
use Rattle.refutation_checker.specs.LineVerdicts.{HoldsByWords}
use Rattle.refutation_checker.specs.LineTexts.{Judging}
use Rattle.refutation_checker.proofs.LeafJudging.{IsAnswered}
use Rattle.refutation_checker.proofs.judge.Judge.leaf_escape.Goals as goal

pub returns-clause-escape : goal.returns-clause-escape
returns-clause-escape c =
    let D = has_domain c.args.doms.now in
    let line = c.args.line.now in
    let found = c.escape_of-found.result in
    let here : IsAnswered c.self.inside.problem.now c.self.inside.terms.goal D line found =
    subst (λ (P : Instance). IsAnswered P c.self.inside.terms.goal D line found) c.in_ok-automaton.ensures.problem c.escape_of-found.ensures in
    subst (λ (j : Judging). IsAnswered j.problem j.goal D line found) c.self.view_is here

pub holds_plainly-requires-clause-line : goal.holds_plainly-requires-clause-line
holds_plainly-requires-clause-line c =
    (c.self.inside.terms.goal, c.self.inside.terms.counts, subst (λ (j : Judging). LineFits j.problem j.goal j.counts c.args.line.now) (sym c.self.view_is) c.requires.line)

pub returns-then-branch-clause-escape : goal.returns-then-branch-clause-escape
returns-then-branch-clause-escape c =
    subst (λ (j : Judging). HoldsByWords j.problem j.goal (has_domain c.args.doms.now) c.args.line.now) c.self.view_is (c.in_ok-holds_plainly.ensures c.if-branch.true c.self.inside.terms.goal)

pub escape_of-found-requires-clause-line : goal.escape_of-found-requires-clause-line
escape_of-found-requires-clause-line c =
    subst (λ (P : Instance). LineFits P c.self.inside.terms.goal c.self.inside.terms.counts c.args.line.now) (sym c.in_ok-automaton.ensures.problem)
    (subst (λ (j : Judging). LineFits j.problem j.goal j.counts c.args.line.now) (sym c.self.view_is) c.requires.line)
