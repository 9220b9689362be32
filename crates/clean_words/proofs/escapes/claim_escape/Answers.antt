use Rattle.std.proofs.Common.{◌≡◌, ◌∙◌, ℕ, ◌*◌, ap, subst, arith, rules, w64, to_z, of_z, SFits}
use Rattle.std.proofs.lemmas.Int.{ints}
use Rattle.rwsp_terms.specs.Instance.{cells}
use Rattle.domain_store.specs.Store.{has_domain}
use Rattle.refutation_terms.specs.declared.lines.WordClaim.TheVariants.{Light}
use Rattle.clean_words.proofs.LeafWords.{IsSaid, claim_said, asked_by}
use Rattle.clean_words.proofs.escapes.claim_escape.Goals as goal

pub returns-in-Some : goal.returns-in-Some
returns-in-Some c =
    let P = c.args.automaton.now.problem in
    let claim = c.args.claim in
    let narrow : SFits w64 c.times-least.result = search rules in
    let read : to_z w64 (of_z w64 c.times-least.result) ≡ c.times-least.result = omega (arith, ints, narrow) in
    let same : to_z w64 (of_z w64 c.total.result) ≡ c.total.result = omega (arith, ints, c.total.ensures.above, c.total.ensures.below) in
    let asked = asked_by P _ claim.weights.now claim.turns claim.reward _ claim.goal _ _ _ read c.times-least.ensures (same ∙ c.total.ensures.value) c.problem-problem.ensures c.unwrap_or-goal.ensures in
    let size : claim.turns * c.cells.result ≡ claim.turns * cells P = ap (λ (n : ℕ). claim.turns * n) (c.cells.ensures.value ∙ ap cells c.problem-problem.ensures) in
    subst (IsSaid P (has_domain c.args.doms.now) claim.goal claim.position c.args.automaton.now.rules (Light claim.turns claim.reward claim.weights.now)) c.in-Some.is (claim_said P (has_domain c.args.doms.now) claim.goal claim.position _ claim.turns claim.reward c.args.automaton.now.rules claim.weights.now _ c.in_ok-heavy.field-0 c.requires.reward size asked c.in_ok-heavy.ensures)

pub returns-in-None : goal.returns-in-None
returns-in-None c =
    let P = c.args.automaton.now.problem in
    let claim = c.args.claim in
    let narrow : SFits w64 c.times-least.result = search rules in
    let read : to_z w64 (of_z w64 c.times-least.result) ≡ c.times-least.result = omega (arith, ints, narrow) in
    let same : to_z w64 (of_z w64 c.total.result) ≡ c.total.result = omega (arith, ints, c.total.ensures.above, c.total.ensures.below) in
    let asked = asked_by P _ claim.weights.now claim.turns claim.reward _ claim.goal _ _ _ read c.times-least.ensures (same ∙ c.total.ensures.value) c.problem-problem.ensures c.unwrap_or-goal.ensures in
    let size : claim.turns * c.cells.result ≡ claim.turns * cells P = ap (λ (n : ℕ). claim.turns * n) (c.cells.ensures.value ∙ ap cells c.problem-problem.ensures) in
    subst (IsSaid P (has_domain c.args.doms.now) claim.goal claim.position c.args.automaton.now.rules (Light claim.turns claim.reward claim.weights.now)) c.in-None.is (claim_said P (has_domain c.args.doms.now) claim.goal claim.position _ claim.turns claim.reward c.args.automaton.now.rules claim.weights.now _ c.in_ok-heavy.field-0 c.requires.reward size asked c.in_ok-heavy.ensures)
