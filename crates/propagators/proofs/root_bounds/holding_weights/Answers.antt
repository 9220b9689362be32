-- The first plain bound that holds; else what the search finds.
use Rattle.std.proofs.Common.{◌≡◌, ℕ, subst, Option, Some, None}
use Rattle.std.specs.Prelude.{slice_get}
use Rattle.std.proofs.lemmas.Result.{IfOk-weaker}
use Rattle.refutation_terms.specs.Sharp.{HoldsAtTop, plain_bounds}
use Rattle.domain_store.specs.Store.{has_domain}
use Rattle.clean_words.specs.First.{IsFirstHolding}
use Rattle.propagators.proofs.Starts.{plain_holds, searched_answer}
use Rattle.propagators.proofs.root_bounds.holding_weights.Goals as goal

pub returns-in_ok-plain_bound-in-Some : goal.returns-in_ok-plain_bound-in-Some
returns-in_ok-plain_bound-in-Some g c =
    let P = c.args.automaton.now.problem in
    let D = has_domain c.args.doms.now in
    let R = c.args.automaton.now.rules in
    let Firsts : Option ℕ → Type 0 = λ k. IsFirstHolding (HoldsAtTop P D R) 0 (plain_bounds P) k in
    let first : Firsts (Some c.in-Some.index) = subst Firsts c.in-Some.is c.in_ok-index.ensures in
    let bound = subst (λ Q. slice_get (plain_bounds Q) c.in-Some.index ≡ Some c.in_ok-plain_bound-in-Some.field-0) c.problem.ensures c.in_ok-plain_bound-in-Some.ensures.bound in
    plain_holds P D R c.in-Some.index c.in_ok-plain_bound-in-Some.field-0 first bound c.in_ok-plain_bound-in-Some.ensures.weights

pub returns-in-None : goal.returns-in-None
returns-in-None g c =
    let P = c.args.automaton.now.problem in
    let D = has_domain c.args.doms.now in
    let R = c.args.automaton.now.rules in
    let Firsts : Option ℕ → Type 0 = λ k. IsFirstHolding (HoldsAtTop P D R) 0 (plain_bounds P) k in
    let none : Firsts None = subst Firsts c.in-None.is c.in_ok-index.ensures in
    IfOk-weaker c.search_weights.result _ _ (λ y found. searched_answer P D R y none found) c.search_weights.ensures
