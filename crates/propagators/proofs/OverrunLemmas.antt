-- Counts against the demand.
use Rattle.std.proofs.Common.{◌≡◌, ℕ, ◌-◌, ◌<◌, ◌+◌, ◌≤◌, arith, ap, ◌∙◌, subst, List, [], inl, inr, Bool, get_or}
use Rattle.std.specs.Prelude.{Option}
use Rattle.std.proofs.lemmas.Bool.{cases_eq}
use Rattle.rwsp_terms.specs.declared.data.Symbol.{Symbol}
use Rattle.rwsp_terms.specs.Instance.{Instance, shift_count, IsDay}
use Rattle.refutation_terms.specs.DayLeaf.{fixed, possible}
use Rattle.domain_store.specs.Sets.{has_symbol}
use Rattle.domain_store.specs.Store.{Store, has_domain}
use Rattle.propagators.specs.Counted.{Counted, CountsFor, StandsFor, has_counted}
use Rattle.propagators.specs.Tallies.{column_count, is_held, is_alone}
use Rattle.propagators.specs.Overruns.{IsWithinDemand, IsOverrunAnswer}

-- counts of the kept domains, in the words of a problem
pub fixed_here : (P : Instance) (C : Counted) (j x n : ℕ) → CountsFor P C → n ≡ column_count (is_alone C.shifts x) C.days C.weeks C.sets (j - 1) → n ≡ fixed P (has_counted C) j x
fixed_here P C j x n of kept =
    kept ∙ ap (λ d. column_count (is_alone C.shifts x) d C.weeks C.sets (j - 1)) of.days
    ∙ ap (λ w. column_count (is_alone C.shifts x) P.days w C.sets (j - 1)) of.weeks
    ∙ ap (λ k. column_count (is_alone k x) P.days P.weeks C.sets (j - 1)) of.shifts

pub possible_here : (P : Instance) (C : Counted) (j x n : ℕ) → CountsFor P C → n ≡ column_count (is_held x) C.days C.weeks C.sets (j - 1) → n ≡ possible P (has_counted C) j x
possible_here P C j x n of kept =
    kept ∙ ap (λ d. column_count (is_held x) d C.weeks C.sets (j - 1)) of.days ∙ ap (λ w. column_count (is_held x) P.days w C.sets (j - 1)) of.weeks

-- one symbol more
pub one_symbol_more : (P : Instance) (C : Counted) (j n : ℕ) → ((y : ℕ) → y < n → IsWithinDemand P (has_counted C) j y) → IsWithinDemand P (has_counted C) j n → (y : ℕ) → y < n + 1 → IsWithinDemand P (has_counted C) j y
one_symbol_more P C j n before here y less =
    elim (cases_eq n y) [
      | inl same ↦ subst (λ z. IsWithinDemand P (has_counted C) j z) same here
      | inr other ↦ before y (omega (arith, less, other))
    ]

-- one day more
pub one_day_more : (P : Instance) (C : Counted) (n : ℕ) → ((i y : ℕ) → IsDay P i → i < n → y ≤ shift_count P → IsWithinDemand P (has_counted C) i y) → ((y : ℕ) → y ≤ shift_count P → IsWithinDemand P (has_counted C) n y)
    → (i y : ℕ) → IsDay P i → i < n + 1 → y ≤ shift_count P → IsWithinDemand P (has_counted C) i y
one_day_more P C n before here i y day less symbol =
    elim (cases_eq n i) [
      | inl same ↦ subst (λ k. IsWithinDemand P (has_counted C) k y) same (here y symbol)
      | inr other ↦ before i y day (omega (arith, less, other)) symbol
    ]

-- what holds of the kept domains holds of the store's
pub answer_of_store : (P : Instance) (C : Counted) (S : Store) (r : Option (ℕ × Symbol × Bool)) → StandsFor C S → IsOverrunAnswer P (has_counted C) r → IsOverrunAnswer P (has_domain S) r
answer_of_store P C S r stands answer =
    let A : List (List ℕ) → Type 0 = λ sets. IsOverrunAnswer P (λ p x. has_symbol (get_or sets p []) x) r in
    subst A stands.sets answer
