-- Idle splits by the store's domains.
use Rattle.std.proofs.Common.{◌≡◌, ℕ, ◌+◌, ◌*◌, ◌<◌, ◌≤◌, [], length, refl, ap, sym, ◌∙◌, arith, Bool, true, false, ◌&&◌, ◌||◌, ◌==◌, not, get_or, inl, inr}
use Rattle.std.specs.List.{range_with_len, list_all}
use Rattle.std.specs.Prelude.{nat_le}
use Rattle.std.proofs.Math.Path.{fun_ext}
use Rattle.std.proofs.lemmas.Bool.{cases_lt, eq-eqb, ne_eqb, le-leb, lt-leb, leb-false}
use Rattle.std.proofs.lemmas.List.Elements.{All-get_or}
use Rattle.std.proofs.lemmas.List.Folds.{list_all_at}
use Rattle.std.proofs.lemmas.List.Sums.{list_all-from_AllPass}
use Rattle.std.proofs.lemmas.List.FromFn.{length-range_with_len, get_or-range_with_len}
use Rattle.rwsp_terms.specs.Instance.{Instance, cells}
use Rattle.refutation_terms.specs.Word.{Domains}
use Rattle.refutation_terms.specs.Tree.{is_idle}
use Rattle.refutation_terms.proofs.Tests.{passes_by}
use Rattle.domain_store.specs.Sets.{IsDomain}
use Rattle.domain_store.specs.Store.{Store, BelongsTo, domain_at, has_domain, IsStore, HasDomains}
use Rattle.domain_store.specs.Splits.{is_idle_in}

-- the numbers up to K that are x or not in the domain
abbrev alone_test : Store → ℕ → ℕ → ℕ → Bool
alone_test S p x z = (z == x) || not (has_domain S p z)

where_one : (S : Store) (p x last : ℕ) → HasDomains S → length (domain_at S p) ≡ 1 → has_domain S p x ≡ true → list_all (alone_test S p x) (range_with_len 0 (last + 1)) ≡ true
where_one S p x last tests one has =
    list_all-from_AllPass (alone_test S p x) (range_with_len 0 (last + 1))
    (λ i d lt.
    let z : ℕ = get_or (range_with_len 0 (last + 1)) i d in
    passes_by (z == x) (has_domain S p z) (λ held. eq-eqb z x (sym (tests.alone p x z one has held))))

where_more : (S : Store) (p x : ℕ) → HasDomains S → 2 ≤ length (domain_at S p) → list_all (alone_test S p x) (range_with_len 0 (S.shifts + 1)) ≡ false
where_more S p x tests two =
    let other = tests.others p x two in
    let y : ℕ = other.0 in
    let small : y ≤ S.shifts = (tests.known p y other.2).1 in
    let inside : y < S.shifts + 1 = omega arith in
    let within : y < length (range_with_len 0 (S.shifts + 1)) = omega (arith, length-range_with_len 0 (S.shifts + 1)) in
    let at : get_or (range_with_len 0 (S.shifts + 1)) y 0 ≡ y = get_or-range_with_len 0 (S.shifts + 1) y 0 inside ∙ (omega arith) in
    let fails : alone_test S p x y ≡ false = ap (λ b. b || not (has_domain S p y)) (ne_eqb y x other.1) ∙ ap not other.2 in
    list_all_at (alone_test S p x) (range_with_len 0 (S.shifts + 1)) y 0 within (ap (alone_test S p x) at ∙ fails)

idle_by : (S : Store) (p x : ℕ) (held : Bool) → has_domain S p x ≡ held → IsStore S → HasDomains S → p < length S.sets → (not held || nat_le (length (domain_at S p)) 1) ≡ (not held || (held && list_all (alone_test S p x) (range_with_len 0 (S.shifts + 1))))
idle_by S p x false has now tests inside = refl
idle_by S p x true has now tests inside =
    let some : 0 < length (domain_at S p) = (All-get_or (IsDomain S.shifts) S.sets p [] inside now.domains).some in
    elim (cases_lt 1 (length (domain_at S p))) [
      | inl two ↦ lt-leb (length (domain_at S p)) 1 two ∙ sym (where_more S p x tests (omega (arith, two)))
      | inr few ↦
          let one : length (domain_at S p) ≡ 1 = omega (arith, few, some) in
          le-leb (length (domain_at S p)) 1 few ∙ sym (where_one S p x S.shifts tests one has)
    ]

-- the test by the store is the test by its domains
pub idle_in_store : (P : Instance) (D : Domains) (S : Store) (p x : ℕ) → IsStore S → HasDomains S → BelongsTo P S → p < length S.sets → ((z : ℕ) → has_domain S p z ≡ D p z) → is_idle_in S p x ≡ is_idle P D p x
idle_in_store P D S p x now tests belongs inside same =
    let test : (ℕ → Bool) → ℕ → Bool = λ f last. not (f x) || (f x && list_all (λ z. (z == x) || not (f z)) (range_with_len 0 (last + 1))) in
    let here : has_domain S p ≡ D p = fun_ext same in
    idle_by S p x (has_domain S p x) refl now tests inside ∙ ap (λ f. test f S.shifts) here ∙ ap (test (D p)) belongs.shifts

useful_has : (held few : Bool) → (not held || few) ≡ false → held ≡ true
useful_has true few h = refl
useful_has false few h = absurd (cc)

useful_more : (held few : Bool) → (not held || few) ≡ false → few ≡ false
useful_more true few h = h
useful_more false few h = absurd (cc)

-- a split that isn't idle leaves another symbol
pub held_where_useful : (S : Store) (p x : ℕ) → is_idle_in S p x ≡ false → has_domain S p x ≡ true
held_where_useful S p x h = useful_has (has_domain S p x) (nat_le (length (domain_at S p)) 1) h

pub more_where_useful : (S : Store) (p x : ℕ) → is_idle_in S p x ≡ false → 2 ≤ length (domain_at S p)
more_where_useful S p x h = omega (arith, leb-false (length (domain_at S p)) 1 (useful_more (has_domain S p x) (nat_le (length (domain_at S p)) 1) h))

-- a store for the instance has its positions
pub positions_of : (P : Instance) (S : Store) → IsStore S → BelongsTo P S → length S.sets ≡ cells P
positions_of P S now belongs = now.long ∙ ap (λ n. n * S.days) belongs.weeks ∙ ap (λ n. P.weeks * n) belongs.days
