use Rattle.std.proofs.Common.{◌≡◌, ◌∙◌, ◌⊎◌, ℕ, List, [], Contains, Some, ⊎_elim, arith, refl, subst, sym}
use Rattle.std.proofs.lemmas.Option.{same_Some}
use Rattle.rwsp_terms.specs.Rules.{IsShort, rule_of}
use Rattle.test_helpers.proofs.problems.one_rule.Goals as goal

pub of-requires : goal.of-requires
of-requires c =
    let P = c.args.problem.now in
    let short : IsShort P c.rule_at.result = c.if-not-is_short.ensures.0 refl in
    λ r named.
    let is : named.0 ≡ c.args.number = ⊎_elim (λ (no : Contains [] named.0). absurd (omega (arith, no.1))) (λ (e : named.0 ≡ c.args.number). e)
    (subst (λ (L : List ℕ). Contains L named.0 ⊎ (named.0 ≡ c.args.number)) c.new-rules.ensures ((c.in_ok-put.ensures.holds named.0).0 named.1)) in
    subst (IsShort P) (same_Some c.rule_at.result r (sym c.rule_at.ensures.value ∙ subst (λ k. rule_of P k ≡ Some r) is named.2)) short
