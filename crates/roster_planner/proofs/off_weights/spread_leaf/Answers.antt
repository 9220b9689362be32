use Rattle.std.proofs.Common.{◌≡◌, ℕ, List, subst, sym, ◌∙◌}
use Rattle.std.proofs.Math.Nat.{mul-pos}
use Rattle.rwsp_terms.specs.Instance.{Instance}
use Rattle.rwsp_model.specs.Validity.{KeepsLimits}
use Rattle.refutation_terms.specs.declared.lines.Line.TheVariants.{Closing}
use Rattle.refutation_terms.specs.declared.lines.Leaf.TheVariants.{Words}
use Rattle.refutation_terms.specs.declared.lines.WordClaim.TheVariants.{Light}
use Rattle.refutation_terms.specs.Ranges.{AreWeightsOf}
use Rattle.domain_store.specs.Store.{has_domain}
use Rattle.domain_store.specs.Leaves.{IsHoldingLeaf}
use Rattle.roster_planner.proofs.OneShift.{goal_of_problem}
use Rattle.roster_planner.proofs.off_weights.spread_leaf.Goals as goal

pub claim_escape-requires-clause-goal : goal.claim_escape-requires-clause-goal
claim_escape-requires-clause-goal c = goal_of_problem c.args.automaton.now.problem c.args.claim.goal c.requires.goal

pub returns : goal.returns
returns c =
    let a = c.args.automaton.now in
    let P = a.problem in
    let claim = c.args.claim in
    let is : c.problem-problem.result.now ≡ P = c.problem-problem.ensures in
    let limits = subst KeepsLimits is c.prove_limits.ensures in
    let weights = subst (λ (Q : Instance). AreWeightsOf Q c.in_ok-weights.weights) is c.in_ok-weights.ensures in
    let same : a.rules ≡ c.in_ok-rules.rules = sym (c.in_ok-rules.ensures ∙ c.rules.ensures) in
    let line = λ (rules : List ℕ). Closing (Words claim.position rules (Light claim.turns claim.reward c.in_ok-weights.weights)) in
    subst (λ (rules : List ℕ). IsHoldingLeaf P claim.goal (has_domain c.args.doms.now) (line rules)) same (record {
      leaf = tt;
      fits = (c.requires.position, (mul-pos c.requires.some (mul-pos limits.some_weeks limits.some_days), c.requires.few), c.requires.short.are_rules, weights, c.requires.reward);
      short = λ r named. ((c.requires.short.all_short r).0 named).1;
      holds = rw c.in_default.is at c.in_ok-claim_escape.ensures;
    })
