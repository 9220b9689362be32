-- Lists to which numbers are added one after another.
use Rattle.std.proofs.Common.{◌≡◌, ◌≢◌, ℕ, ◌+◌, ◌-◌, ◌<◌, ◌≤◌, List, length, get_or, refl, ap, sym, ◌∙◌, subst, arith, ◌⊎◌, inl, inr, ⊎_elim, Some}
use Rattle.std.specs.Prelude.{Contains, ◌↔◌, slice_get, Result, Ok, Err, OnOk, OnErr}
use Rattle.std.proofs.lemmas.Bool.{cases_eq}
use Rattle.std.proofs.lemmas.List.{get_or_default}
use Rattle.std.proofs.lemmas.Option.{slice_get-get_or, get_or_from_slice_get, same_Some}
use Rattle.rwsp_terms.specs.declared.data.Weight.{Weight}
use Rattle.rwsp_terms.specs.declared.data.Rule.{Rule}
use Rattle.rwsp_terms.specs.declared.data.Rule.TheVariants.{Day}
use Rattle.rwsp_terms.specs.Instance.{Instance}
use Rattle.rwsp_terms.specs.Rules.{rule_of}
use Rattle.rwsp_model.proofs.Numbering.{one_number}
use Rattle.refutation_log.specs.Cited.{Adds, AddsSome, IsCited, IsDayRule, IsSomeDay, IsWeighedDayRule}

-- the list holds what it held, and what the first i steps add
abbrev pub AddsTo : List ℕ → List ℕ → (ℕ → ℕ → Type 0) → ℕ → Type 0
AddsTo old now Is i = (k : ℕ) → Contains now k ↔ (Contains old k ⊎ ((m : ℕ) × (m < i) × Is m k))

pub adds_more : (old mid new : List ℕ) (Is : ℕ → ℕ → Type 0) (i : ℕ) → AddsTo old mid Is i → Adds mid new (Is i) → AddsTo old new Is (i + 1)
adds_more old mid new Is i so here k = (
  λ h. ⊎_elim
      (λ (c : Contains mid k). ⊎_elim (λ (o : Contains old k). inl o) (λ (q : (m : ℕ) × (m < i) × Is m k). inr (q.0, omega (arith, q.1), q.2)) ((so k).0 c))
      (λ (q : Is i k). inr (i, omega arith, q))
      ((here k).0 h),
  λ h. ⊎_elim
      (λ (o : Contains old k). (here k).1 (inl ((so k).1 (inl o))))
      (λ (q : (m : ℕ) × (m < i + 1) × Is m k).
      ⊎_elim
      (λ (e : q.0 ≡ i). (here k).1 (inr (subst (λ m. Is m k) e q.2)))
      (λ (ne : q.0 ≢ i). (here k).1 (inl ((so k).1 (inr (q.0, omega (arith, q.1, ne), q.2)))))
      (cases_eq q.0 i))
      h,
)

pub adds_same : (old new : List ℕ) (A B : ℕ → Type 0) → Adds old new A → ((k : ℕ) → A k ↔ B k) → Adds old new B
adds_same old new A B h same k = (
  λ c. ⊎_elim (λ (o : Contains old k). inl o) (λ (q : A k). inr ((same k).0 q)) ((h k).0 c),
  λ c. (h k).1 (⊎_elim (λ (o : Contains old k). inl o) (λ (q : B k). inr ((same k).1 q)) c),
)

-- all steps
pub adds_all : (old new : List ℕ) (Is : ℕ → ℕ → Type 0) (i : ℕ) (A : ℕ → Type 0) → AddsTo old new Is i → ((k : ℕ) → A k ↔ ((m : ℕ) × (m < i) × Is m k)) → Adds old new A
adds_all old new Is i A h same k = (
  λ c. ⊎_elim (λ (o : Contains old k). inl o) (λ (q : (m : ℕ) × (m < i) × Is m k). inr ((same k).1 q)) ((h k).0 c),
  λ c. (h k).1 (⊎_elim (λ (o : Contains old k). inl o) (λ (q : A k). inr ((same k).0 q)) c),
)

-- some steps, after which the list is as it was
pub adds_some : (old mid new : List ℕ) (Is : ℕ → ℕ → Type 0) (i : ℕ) (A : ℕ → Type 0) → AddsTo old mid Is i → ((k m : ℕ) → m < i → Is m k → A k) → new ≡ mid → AddsSome old new A
adds_some old mid new Is i A h some e =
    subst (λ z. AddsSome old z A) (sym e)
    (λ k. (λ o. (h k).1 (inl o), λ c. ⊎_elim (λ (o : Contains old k). inl o) (λ (q : (m : ℕ) × (m < i) × Is m k). inr (some k q.0 q.1 q.2)) ((h k).0 c)))

-- one list after another
pub adds_both : (old mid new : List ℕ) (A B : ℕ → Type 0) → Adds old mid A → Adds mid new B → Adds old new (λ k. A k ⊎ B k)
adds_both old mid new A B f g k = (
  λ c. ⊎_elim (λ (m : Contains mid k). ⊎_elim (λ (o : Contains old k). inl o) (λ (a : A k). inr (inl a)) ((f k).0 m)) (λ (b : B k). inr (inr b)) ((g k).0 c),
  λ c. (g k).1 (⊎_elim (λ (o : Contains old k). inl ((f k).1 (inl o))) (λ (q : A k ⊎ B k). ⊎_elim (λ (a : A k). inl ((f k).1 (inr a))) (λ (b : B k). inr b) q) c),
)

pub some_first : (old new : List ℕ) (A B : ℕ → Type 0) → AddsSome old new A → AddsSome old new (λ k. A k ⊎ B k)
some_first old new A B h k = (λ o. (h k).0 o, λ c. ⊎_elim (λ (o : Contains old k). inl o) (λ (a : A k). inr (inl a)) ((h k).1 c))

pub some_then : (old mid new : List ℕ) (A B : ℕ → Type 0) → Adds old mid A → AddsSome mid new B → AddsSome old new (λ k. A k ⊎ B k)
some_then old mid new A B f g k = (
  λ o. (g k).0 ((f k).1 (inl o)),
  λ c. ⊎_elim (λ (m : Contains mid k). ⊎_elim (λ (o : Contains old k). inl o) (λ (a : A k). inr (inl a)) ((f k).0 m)) (λ (b : B k). inr (inr b)) ((g k).1 c),
)

-- the steps of a list of numbers
abbrev pub StandsAt : List ℕ → ℕ → ℕ → Type 0
StandsAt cited m k = (m < length cited) × (get_or cited m 0 ≡ k)

pub contains_steps : (cited : List ℕ) (k : ℕ) → Contains cited k ↔ ((m : ℕ) × (m < length cited) × StandsAt cited m k)
contains_steps cited k = (
  λ c. (c.0, c.1, (c.1, get_or_default cited c.0 0 k c.1 ∙ c.2)),
  λ q. (q.0, q.1, sym (get_or_default cited q.0 0 k q.1) ∙ q.2.1),
)

pub number_step : (mid new cited : List ℕ) (i n : ℕ) → i < length cited → n ≡ get_or cited i 0 → ((k : ℕ) → Contains new k ↔ (Contains mid k ⊎ (k ≡ n))) → Adds mid new (StandsAt cited i)
number_step mid new cited i n less is h =
    adds_same mid new (λ k. k ≡ n) (StandsAt cited i) h (λ k. (λ e. (less, sym is ∙ sym e), λ q. sym q.1 ∙ sym is))

-- the steps of weights
abbrev pub StandsOn : Instance → List Weight → ℕ → ℕ → Type 0
StandsOn P y m k = (e : Weight) × (slice_get y m ≡ Some e) × IsDayRule P e.day k

pub weighed_steps : (P : Instance) (y : List Weight) (k : ℕ) → IsWeighedDayRule P y k ↔ ((m : ℕ) × (m < length y) × StandsOn P y m k)
weighed_steps P y k = (λ q. (q.0, q.2, (q.1, q.3, q.4)), λ q. (q.0, q.2.0, q.1, q.2.1, q.2.2))

same_weight : (a b : Weight) → Some a ≡ Some b → a ≡ b
same_weight a b e = cc

pub weight_step : (P : Instance) (mid new : List ℕ) (y : List Weight) (i : ℕ) (e : Weight) → slice_get y i ≡ Some e → Adds mid new (IsDayRule P e.day) → Adds mid new (StandsOn P y i)
weight_step P mid new y i e is h =
    adds_same mid new (IsDayRule P e.day) (StandsOn P y i) h
    (λ k. (λ q. (e, is, q), λ q. let same : q.0 ≡ e = same_weight q.0 e (sym q.1 ∙ is) in subst (λ (z : Weight). IsDayRule P z.day k) same q.2))

pub all_numbers : (old new items cited : List ℕ) (i : ℕ) → items ≡ cited → i ≡ length items → AddsTo old new (StandsAt items) i → Adds old new (Contains cited)
all_numbers old new items cited i e all h =
    subst (λ z. Adds old new (Contains z)) e
    (adds_all old new (StandsAt items) (length items) (Contains items) (subst (AddsTo old new (StandsAt items)) all h) (contains_steps items))

pub some_numbers : (old mid new items cited : List ℕ) (i : ℕ) → items ≡ cited → AddsTo old mid (StandsAt items) i → new ≡ mid → AddsSome old new (Contains cited)
some_numbers old mid new items cited i e h same =
    subst (λ z. AddsSome old new (Contains z)) e
    (adds_some old mid new (StandsAt items) i (Contains items) h (λ k m less q. (contains_steps items k).1 (m, q.0, q)) same)

pub all_days : (P : Instance) (old new : List ℕ) (items y : List Weight) (i : ℕ) → items ≡ y → i ≡ length items → AddsTo old new (StandsOn P items) i → Adds old new (IsWeighedDayRule P y)
all_days P old new items y i e all h =
    subst (λ z. Adds old new (IsWeighedDayRule P z)) e
    (adds_all old new (StandsOn P items) (length items) (IsWeighedDayRule P items) (subst (AddsTo old new (StandsOn P items)) all h) (weighed_steps P items))

pub some_days : (P : Instance) (old mid new : List ℕ) (items y : List Weight) (i : ℕ) → items ≡ y → i ≤ length items → AddsTo old mid (StandsOn P items) i → new ≡ mid → AddsSome old new (IsWeighedDayRule P y)
some_days P old mid new items y i e within h same =
    subst (λ z. AddsSome old new (IsWeighedDayRule P z)) e
    (adds_some old mid new (StandsOn P items) i (IsWeighedDayRule P items) h (λ k m less q. (weighed_steps P items k).1 (m, omega (arith, less, within), q)) same)

pub on_ok : {T E : Type 0} (r : Result T E) (A B : Type 0) → (A → B) → OnOk r A → OnOk r B
on_ok (Ok x) A B f h = f h
on_ok (Err e) A B f h = tt

pub on_err : {T E : Type 0} (r : Result T E) (A B : Type 0) → (A → B) → OnErr r A → OnErr r B
on_err (Ok x) A B f h = tt
on_err (Err e) A B f h = f h

pub err_from : {T E : Type 0} (r : Result T E) (A : Type 0) → A → OnErr r A
err_from (Ok x) A h = tt
err_from (Err e) A h = h

pub some_same : (old new : List ℕ) (A B : ℕ → Type 0) → AddsSome old new A → ((k : ℕ) → A k ↔ B k) → AddsSome old new B
some_same old new A B h same k = (λ o. (h k).0 o, λ c. ⊎_elim (λ (o : Contains old k). inl o) (λ (a : A k). inr ((same k).0 a)) ((h k).1 c))

-- the steps of a list of rules
abbrev pub StandsFor : Instance → List Rule → ℕ → ℕ → Type 0
StandsFor P listed m k = (r : Rule) × (slice_get listed m ≡ Some r) × (rule_of P k ≡ Some r)

pub listed_steps : (P : Instance) (listed : List Rule) (k : ℕ) → IsCited P (Contains listed) k ↔ ((m : ℕ) × (m < length listed) × StandsFor P listed m k)
listed_steps P listed k = (
  λ q. (q.2.0, q.2.1, (q.0, slice_get-get_or listed q.2.0 q.0 q.2.1 ∙ ap (λ (r : Rule). Some r) q.2.2, q.1)),
  λ q. (q.2.0, q.2.2, (q.0, q.1, get_or_from_slice_get listed q.0 q.2.0 q.2.0 q.2.1)),
)

pub rule_step : (P : Instance) (mid new : List ℕ) (listed : List Rule) (i n : ℕ) (r : Rule) → slice_get listed i ≡ Some r → rule_of P n ≡ Some r → ((k : ℕ) → Contains new k ↔ (Contains mid k ⊎ (k ≡ n))) → Adds mid new (StandsFor P listed i)
rule_step P mid new listed i n r is number h =
    adds_same mid new (λ k. k ≡ n) (StandsFor P listed i) h
    (λ k. (
      λ e. (r, is, ap (rule_of P) e ∙ number),
      λ q. one_number P k n r (q.2 ∙ ap (λ (z : Rule). Some z) (same_Some q.0 r (sym q.1 ∙ is))) number,
    ))

pub all_listed : (P : Instance) (old new : List ℕ) (items listed : List Rule) (i : ℕ) → items ≡ listed → i ≡ length items → AddsTo old new (StandsFor P items) i → Adds old new (IsCited P (Contains listed))
all_listed P old new items listed i e all h =
    subst (λ z. Adds old new (IsCited P (Contains z))) e
    (adds_all old new (StandsFor P items) (length items) (IsCited P (Contains items)) (subst (AddsTo old new (StandsFor P items)) all h) (listed_steps P items))

pub some_listed : (P : Instance) (old mid new : List ℕ) (items listed : List Rule) (i : ℕ) → items ≡ listed → i ≤ length items → AddsTo old mid (StandsFor P items) i → new ≡ mid → AddsSome old new (IsCited P (Contains listed))
some_listed P old mid new items listed i e within h same =
    subst (λ z. AddsSome old new (IsCited P (Contains z))) e
    (adds_some old mid new (StandsFor P items) i (IsCited P (Contains items)) h (λ k m less q. (listed_steps P items k).1 (m, omega (arith, less, within), q)) same)

-- the steps of the days, where the first is day 1
abbrev pub StandsOnDay : Instance → ℕ → ℕ → Type 0
StandsOnDay P m k = IsDayRule P (m + 1) k

pub day_steps : (P : Instance) (k : ℕ) → IsCited P (IsSomeDay P) k ↔ ((m : ℕ) × (m < P.days) × StandsOnDay P m k)
day_steps P k = (
  λ q.
      let back : q.2.0 ≡ q.2.0 - 1 + 1 = omega (arith, q.2.1.0) in
      (q.2.0 - 1, omega (arith, q.2.1.0, q.2.1.1), q.1 ∙ ap (λ (r : Rule). Some r) q.2.2 ∙ ap (λ j. Some (Day j)) back),
  λ q. (Day (q.0 + 1), q.2, (q.0 + 1, (omega arith, omega (arith, q.1)), refl)),
)

pub each_day : (P : Instance) (old new : List ℕ) (i : ℕ) → i ≡ P.days → AddsTo old new (StandsOnDay P) i → Adds old new (IsCited P (IsSomeDay P))
each_day P old new i all h =
    adds_all old new (StandsOnDay P) P.days (IsCited P (IsSomeDay P)) (subst (AddsTo old new (StandsOnDay P)) all h) (day_steps P)

pub first_days : (P : Instance) (old mid new : List ℕ) (i : ℕ) → i ≤ P.days → AddsTo old mid (StandsOnDay P) i → new ≡ mid → AddsSome old new (IsCited P (IsSomeDay P))
first_days P old mid new i within h same =
    adds_some old mid new (StandsOnDay P) i (IsCited P (IsSomeDay P)) h (λ k m less q. (day_steps P k).1 (m, omega (arith, less, within), q)) same
