-- The bound that holds at the start, where the domains are those of the start; and none where none holds there.
use Rattle.std.proofs.Common.{◌≡◌, ◌∙◌, refl, ap, sym, subst, List, ℕ, Some}
use Rattle.rwsp_terms.specs.declared.data.Weight.{Weight}
use Rattle.rwsp_terms.specs.Instance.{Instance}
use Rattle.rwsp_model.specs.Validity.{KeepsLimits}
use Rattle.refutation_terms.specs.declared.lines.Line.TheVariants.{Closing}
use Rattle.refutation_terms.specs.declared.lines.Leaf.TheVariants.{Words}
use Rattle.refutation_terms.specs.declared.lines.WordClaim.TheVariants.{Light}
use Rattle.refutation_terms.specs.Word.{AreSame}
use Rattle.domain_store.specs.Store.{Store, has_domain}
use Rattle.propagators.specs.TopBounds.{TopWatch, IsBoundLook}
use Rattle.propagators.proofs.Starts.{look_at_start, no_look}
use Rattle.propagators.proofs.root_bounds.RootBounds.closing.Goals as goal

pub returns-in_default : goal.returns-in_default
returns-in_default c =
    let w = c.args.self.now in
    let problem : c.self.inside.automaton.now.problem ≡ w.problem = ap (λ (v : TopWatch). v.problem) c.self.view_is in
    let weights : c.self.inside.weights ≡ w.weights = ap (λ (v : TopWatch). v.weights) c.self.view_is in
    let limits : KeepsLimits w.problem = subst KeepsLimits (c.problem-problem.ensures ∙ problem) c.prove_limits.ensures in
    no_look w c.args.doms.now limits c.prove_facts.ensures (sym weights ∙ c.in_default.is)

pub returns : goal.returns
returns c =
    let w = c.args.self.now in
    let S = c.args.doms.now in
    let problem : c.problem-problem.result.now ≡ w.problem = c.problem-problem.ensures ∙ ap (λ (v : TopWatch). v.problem) c.self.view_is in
    let start : c.self.inside.start ≡ w.start = ap (λ (v : TopWatch). v.start) c.self.view_is in
    let rules : c.rules.result.now ≡ w.rules = c.rules.ensures ∙ ap (λ (v : TopWatch). v.rules) c.self.view_is in
    let weights : c.self.inside.weights ≡ w.weights = ap (λ (v : TopWatch). v.weights) c.self.view_is in
    let limits : KeepsLimits w.problem = subst KeepsLimits problem c.prove_limits.ensures in
    let Same : Instance → Store → Type 0 = λ P T. AreSame P (has_domain S) (has_domain T) in
    let same : Same c.problem-problem.result.now c.self.inside.start = c.if-not-are_same.ensures.0 refl in
    let same_now : Same w.problem w.start = subst (Same w.problem) start (subst (λ P. Same P c.self.inside.start) problem same) in
    let Looks : List ℕ → List Weight → Type 0 = λ R y. IsBoundLook w.problem w.start S (Some (Closing (Words 0 R (Light 1 0 y)))) in
    let here = look_at_start w S c.in-Some.weights limits c.prove_facts.ensures (sym weights ∙ c.in-Some.is) same_now in
    subst (Looks c.in_ok-rules.rules) (sym c.in_ok-weights.ensures) (subst (λ R. Looks R c.in-Some.weights) (sym (c.in_ok-rules.ensures ∙ rules)) here)
