-- The domains of the walk are those at the line.
use Rattle.std.proofs.Common.{length, subst}
use Rattle.refutation_terms.specs.declared.lines.Opening.TheVariants.{Full}
use Rattle.refutation_terms.specs.Tree.{domains_at}
use Rattle.refutation_terms.specs.Log.{GoalFits}
use Rattle.domain_store.specs.Store.{has_domain}
use Rattle.refutation_checker.specs.LineTexts.{Judging, HoldsByWordsUnder, EscapesUnder}
use Rattle.refutation_checker.proofs.LeafJudging.{holds_there, fails_there}
use Rattle.refutation_checker.proofs.leaf_judge.LeafJudge.holds.Goals as goal

pub returns-in-Some-clause-holds : goal.returns-in-Some-clause-holds
returns-in-Some-clause-holds c =
    λ o lines state.
    let J = c.args.self.now in
    let D = has_domain c.domains.result.now in
    let leaf = c.args.leaf.now in
    let word = c.in-Some._word in
    let weeks : GoalFits J.problem Full J.goal = subst (λ (j : Judging). GoalFits j.problem Full j.goal) c.self.view_is c.self.invariant in
    fails_there J.problem J.goal J.counts D (domains_at J.problem o lines (length lines)) leaf word weeks c.requires.fits (c.domains.ensures.has J.problem o lines state)
    (subst (λ (j : Judging). EscapesUnder j D leaf word) c.self.view_is (rw c.in-Some.is at c.in_ok-_word.ensures.escape))

pub returns-clause-holds : goal.returns-clause-holds
returns-clause-holds c =
    λ o lines state.
    let J = c.args.self.now in
    let D = has_domain c.domains.result.now in
    let leaf = c.args.leaf.now in
    let weeks : GoalFits J.problem Full J.goal = subst (λ (j : Judging). GoalFits j.problem Full j.goal) c.self.view_is c.self.invariant in
    holds_there J.problem J.goal J.counts D (domains_at J.problem o lines (length lines)) leaf weeks c.requires.fits (c.domains.ensures.has J.problem o lines state)
    (subst (λ (j : Judging). HoldsByWordsUnder j D leaf) c.self.view_is (rw c.in_default.is at c.in_ok-_word.ensures.escape))
