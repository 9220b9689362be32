use Rattle.std.proofs.Common.{◌≡◌, ℕ, List, Option, Some, None, subst, sym, ◌∙◌}
use Rattle.std.proofs.Math.Nat.{mul-pos}
use Rattle.rwsp_terms.specs.Instance.{Instance}
use Rattle.rwsp_model.specs.Validity.{KeepsLimits}
use Rattle.refutation_terms.specs.declared.lines.Line.TheVariants.{Closing}
use Rattle.refutation_terms.specs.declared.lines.Leaf.TheVariants.{Words}
use Rattle.refutation_terms.specs.declared.lines.WordClaim.TheVariants.{Light}
use Rattle.refutation_terms.specs.declared.lines.Opening.TheVariants.{Full}
use Rattle.refutation_terms.specs.Ranges.{AreWeightsOf}
use Rattle.refutation_terms.specs.Log.{GoalFits}
use Rattle.domain_store.specs.Store.{has_domain}
use Rattle.domain_store.specs.Leaves.{IsHoldingLeaf}
use Rattle.clean_words.specs.Claims.{IsGoalOf}
use Rattle.propagators.proofs.near_leaf.leaf_of.Goals as goal

-- a goal of a log without a turn is one of its problem
fits_of : (P : Instance) (goal : Option ℕ) → GoalFits P Full goal → IsGoalOf P goal
fits_of P None h = tt
fits_of P (Some goal) h = h.2

pub claim_escape-requires-clause-goal : goal.claim_escape-requires-clause-goal
claim_escape-requires-clause-goal c = fits_of c.args.field.now.automaton.now.problem c.args.field.now.goal c.requires.field.goal

pub returns : goal.returns
returns c =
    let f = c.args.field.now in
    let P = f.automaton.now.problem in
    let D = has_domain f.doms.now in
    let is : c.problem-problem.result.now ≡ P = c.problem-problem.ensures in
    let limits = subst KeepsLimits is c.prove_limits.ensures in
    let weights = subst (λ (Q : Instance). AreWeightsOf Q c.in_ok-weights.weights) is c.in_ok-weights.ensures in
    let same : f.automaton.now.rules ≡ c.in_ok-rules.rules = sym (c.in_ok-rules.ensures ∙ c.rules.ensures) in
    let begin = c.begin_and_reward-position.result in
    let line = λ (rules : List ℕ). Closing (Words begin.0 rules (Light c.args.turns begin.1 c.in_ok-weights.weights)) in
    subst (λ (rules : List ℕ). IsHoldingLeaf P f.goal D (line rules)) same (record {
      leaf = tt;
      fits = (c.begin_and_reward-position.ensures.position, (mul-pos c.requires.some (mul-pos limits.some_weeks limits.some_days), c.requires.few), c.requires.field.rules.are_rules, weights, c.begin_and_reward-position.ensures.reward);
      short = λ r named. ((c.requires.field.rules.all_short r).0 named).1;
      holds = rw c.in_default.is at c.in_ok-claim_escape.ensures;
    })
