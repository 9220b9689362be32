-- A word escapes the leaf exactly where it doesn't hold.
use Rattle.std.proofs.Common.{List, Some, refl, subst}
use Rattle.rwsp_terms.specs.declared.data.Weight.{Weight}
use Rattle.refutation_terms.specs.declared.lines.Line.TheVariants.{Closing}
use Rattle.refutation_terms.specs.declared.lines.Leaf.TheVariants.{Words}
use Rattle.refutation_terms.specs.declared.lines.WordClaim.TheVariants.{Light}
use Rattle.refutation_terms.specs.WordsLeaf.{IsTooLight}
use Rattle.refutation_terms.specs.Verdict.{Escapes}
use Rattle.refutation_terms.specs.Word.{AreSame, full}
use Rattle.domain_store.specs.Store.{has_domain}
use Rattle.roster_planner.proofs.TopProofs.{holds_without_escape, fails_by_escape}
use Rattle.roster_planner.proofs.top_leaf.holds_at_top.Goals as goal

pub returns-in-Some : goal.returns-in-Some
returns-in-Some c =
    let P = c.args.automaton.now.problem in
    let R = c.args.automaton.now.rules in
    let g = c.args.goal in
    let D = has_domain c.in_ok-doms.doms in
    let w = c.in-Some.field-0 in
    let is = c.problem-problem.ensures in
    let limits = rw is at c.prove_limits.ensures in
    let has = rw is at c.in_ok-doms.ensures.has in
    let same : AreSame P D (full P) = λ p x inside. has p x inside in
    let found : Escapes P (Some g) D (Closing (Words 0 R (Light 1 1 c.new-weights.result))) w = rw c.in-Some.is at c.in_ok-claim_escape.ensures in
    let unweighed = subst (λ (y : List Weight). Escapes P (Some g) D (Closing (Words 0 R (Light 1 1 y))) w) c.new-weights.ensures found in
    (λ e. absurd (cc e), λ k. absurd (fails_by_escape P g R D w limits (refl, c.requires.week, c.requires.goal) c.requires.short.are_rules same unweighed k))

pub returns : goal.returns
returns c =
    let P = c.args.automaton.now.problem in
    let R = c.args.automaton.now.rules in
    let g = c.args.goal in
    let D = has_domain c.in_ok-doms.doms in
    let is = c.problem-problem.ensures in
    let limits = rw is at c.prove_limits.ensures in
    let has = rw is at c.in_ok-doms.ensures.has in
    let same : AreSame P D (full P) = λ p x inside. has p x inside in
    let found : IsTooLight P (Some g) D 0 1 1 R c.new-weights.result = rw c.in-None.is at c.in_ok-claim_escape.ensures in
    let unweighed = subst (λ (y : List Weight). IsTooLight P (Some g) D 0 1 1 R y) c.new-weights.ensures found in
    (λ e. holds_without_escape P g R D limits (refl, c.requires.week, c.requires.goal) c.requires.short.are_rules same unweighed, λ k. refl)
