-- The cycle's problem and rules are the automaton's.
use Rattle.std.proofs.Common.{◌≡◌, List, ℕ, sym, subst}
use Rattle.std.specs.Prelude.{◌↔◌}
use Rattle.domain_store.specs.Store.{has_domain}
use Rattle.rwsp_terms.specs.Instance.{Instance}
use Rattle.domain_store.specs.Cycles.{AreShortRules, IsCycleLeaf, IsCycleSpent}
use Rattle.propagators.proofs.cycle.CycleProp.new.Goals as goal

still_short : (P Q : Instance) (R S : List ℕ) → Q ≡ P → S ≡ R → AreShortRules P R → AreShortRules Q S
still_short P Q R S same_problem same_rules short =
    let A : Instance → Type 0 = λ p. AreShortRules p S in
    let B : List ℕ → Type 0 = λ r. AreShortRules P r in
    subst A (sym same_problem) (subst B (sym same_rules) short)

pub invariant_of-result : goal.invariant_of-result
invariant_of-result c =
    still_short c.args.automaton.now.problem c.in_ok-cycle.cycle.problem c.args.automaton.now.rules c.in_ok-cycle.cycle.rules
    c.in_ok-cycle.ensures.problem c.in_ok-cycle.ensures.rules c.requires.short

pub returns-clause-leaves : goal.returns-clause-leaves
returns-clause-leaves c S line =
    let P : Instance → Type 0 = λ z. IsCycleLeaf c.in_ok-cycle.cycle.problem line ↔ IsCycleLeaf z line in
    subst P c.in_ok-cycle.ensures.problem (λ h. h, λ h. h)

pub returns-clause-spent : goal.returns-clause-spent
returns-clause-spent c S p x =
    let D = has_domain S in
    let P : Instance → Type 0 = λ z. IsCycleSpent c.in_ok-cycle.cycle.problem D p x ↔ IsCycleSpent z D p x in
    subst P c.in_ok-cycle.ensures.problem (λ h. h, λ h. h)
