-- Rules by their numbers in lists.
use Rattle.std.proofs.Common.{◌≡◌, ◌⊎◌, ℕ, ◌+◌, ◌<◌, ◌≤◌, min, List, length, get_or, Some, ap, sym, subst, ◌∙◌, arith, inl, inr, ⊎_elim, IsTrue, refl, Bool, true, false}
use Rattle.std.proofs.lemmas.Bool.{cases_lt}
use Rattle.std.specs.Prelude.{Contains, ◌↔◌, Option, None, MatchOption, slice_get}
use Rattle.std.specs.List.Sorted.{IsStrictlyIncreasing}
use Rattle.std.proofs.lemmas.Option.{same_Some}
use Rattle.std.proofs.lemmas.List.{get_or_default}
use Rattle.std.proofs.lemmas.List.Elements.{All-get_or}
use Rattle.rwsp_terms.specs.Instance.{Instance}
use Rattle.rwsp_terms.specs.Rules.{rules, rule_of, IsShort, NamesShortOnly}
use Rattle.rwsp_terms.specs.declared.data.Rule.{Rule}
use Rattle.rwsp_terms.specs.declared.data.Rule.TheVariants.{Day}
use Rattle.rwsp_terms.specs.declared.data.Weight.{Weight}
use Rattle.rwsp_terms.proofs.Ascending.{rising}
use Rattle.rwsp_model.specs.RuleNumbers.{IsShortNumber}
use Rattle.rwsp_model.proofs.Numbering.{one_number}
use Rattle.refutation_terms.specs.declared.lines.Line.{Line}
use Rattle.refutation_terms.specs.Ranges.{AreRules}
use Rattle.refutation_terms.specs.Log.{Cites, CitesOnlyNamed}
use Rattle.refutation_terms.specs.Verdict.{IsLeast, IsUnnamed}
use Rattle.refutation_terms.specs.Leaves.{IsLongIn}
use Rattle.refutation_log.specs.Cited.{IsDayRule}
use Rattle.refutation_log.proofs.Adding.{StandsOn, StandsFor}
use Rattle.refutation_log.proofs.CitedRules.{TellsCited, rule_there}
use Rattle.refutation_checker.specs.Outside.{IsOutside, HoldsAll, IsLeastOutside, IsLeastUnnamed, lesser}

-- the same numbers are asked for
pub same_outside : (A B : ℕ → Type 0) (list : List ℕ) (found : Option ℕ) → ((k : ℕ) → A k ↔ B k) → IsLeastOutside A list found → IsLeastOutside B list found
same_outside A B list None same h = λ k b. h k ((same k).1 b)
same_outside A B list (Some n) same h = (((same n).0 h.0.0, h.0.1), λ i b. h.1 i ((same i).1 b.0, b.1))

pub day_outside : (P : Instance) (j n : ℕ) (list : List ℕ) (found : Option ℕ) → rule_of P n ≡ Some (Day j) → IsLeastOutside (λ k. k ≡ n) list found → IsLeastOutside (IsDayRule P j) list found
day_outside P j n list found is h =
    same_outside (λ k. k ≡ n) (IsDayRule P j) list found (λ k. (λ e. ap (rule_of P) e ∙ is, λ e. one_number P k n (Day j) e is)) h

-- what either of two asks for
pub lesser_outside : (A B : ℕ → Type 0) (list : List ℕ) (a b : Option ℕ) → IsLeastOutside A list a → IsLeastOutside B list b → IsLeastOutside (λ k. A k ⊎ B k) list (lesser a b)
lesser_outside A B list None None f g = λ k h. ⊎_elim (λ (x : A k). f k x) (λ (y : B k). g k y) h
lesser_outside A B list None (Some n) f g =
    ((inr g.0.0, g.0.1), λ i h. ⊎_elim (λ (x : A i). absurd (h.1 (f i x))) (λ (y : B i). g.1 i (y, h.1)) h.0)
lesser_outside A B list (Some m) None f g =
    ((inl f.0.0, f.0.1), λ i h. ⊎_elim (λ (x : A i). f.1 i (x, h.1)) (λ (y : B i). absurd (h.1 (g i y))) h.0)
lesser_outside A B list (Some m) (Some n) f g =
    let least : (i : ℕ) → IsOutside (λ k. A k ⊎ B k) list i → min m n ≤ i = λ i h.
    ⊎_elim
    (λ (x : A i). let le = f.1 i (x, h.1) in omega (arith, le))
    (λ (y : B i). let le = g.1 i (y, h.1) in omega (arith, le))
    h.0 in
    elim (cases_lt m n) [
      | inl less ↦
          let e : m ≡ min m n = omega (arith, less) in
          (subst (IsOutside (λ k. A k ⊎ B k) list) e (inl f.0.0, f.0.1), least)
      | inr more ↦
          let e : n ≡ min m n = omega (arith, more) in
          (subst (IsOutside (λ k. A k ⊎ B k) list) e (inr g.0.0, g.0.1), least)
    ]

-- the list holds what another has below a place
abbrev pub HoldsBelow : List ℕ → List ℕ → ℕ → Type 0
HoldsBelow list cited i = (m : ℕ) → m < i → Contains list (get_or cited m 0)

pub holds_all : (cited items list : List ℕ) (i : ℕ) → items ≡ cited → length items ≤ i → HoldsBelow list items i → HoldsAll (Contains cited) list
holds_all cited items list i e all below =
    subst (λ z. HoldsAll (Contains z) list) e
    (λ k c. let less : c.0 < i = omega (arith, c.1, all) in subst (Contains list) (get_or_default items c.0 0 k c.1 ∙ c.2) (below c.0 less))

-- the first that isn't held is the least
pub least_of : (cited items list : List ℕ) (i n : ℕ) → items ≡ cited → IsStrictlyIncreasing items → i < length items → n ≡ get_or items i 0 → HoldsBelow list items i → (Contains list n → ⊥) → IsLeastOutside (Contains cited) list (Some n)
least_of cited items list i n e rises inside is below gone =
    subst (λ z. IsLeast (IsOutside (Contains z) list) n) e (
      ((i, inside, get_or_default items i n 0 inside ∙ sym is), gone),
      λ k h. elim (cases_lt h.0.0 i) [
        | inl less ↦ absurd (h.1 (subst (Contains list) (get_or_default items h.0.0 0 k h.0.1 ∙ h.0.2) (below h.0.0 less)))
        | inr more ↦
            let order = rising items rises i h.0.0 more h.0.1 in
            let same : get_or items h.0.0 0 ≡ k = get_or_default items h.0.0 0 k h.0.1 ∙ h.0.2 in
            omega (arith, order, same, is)
      ],
    )

-- what is asked for step by step: the first i steps
abbrev pub Below : (ℕ → ℕ → Type 0) → ℕ → ℕ → Type 0
Below Asks i k = (m : ℕ) × (m < i) × Asks m k

pub more_below : (Asks : ℕ → ℕ → Type 0) (i : ℕ) (list : List ℕ) (a b : Option ℕ) → IsLeastOutside (Below Asks i) list a → IsLeastOutside (Asks i) list b → IsLeastOutside (Below Asks (i + 1)) list (lesser a b)
more_below Asks i list a b f g =
    same_outside (λ k. Below Asks i k ⊎ Asks i k) (Below Asks (i + 1)) list (lesser a b)
    (λ k. (
      λ h. ⊎_elim
          (λ (q : Below Asks i k). (q.0, omega (arith, q.1), q.2))
          (λ (q : Asks i k). (i, omega arith, q))
          h,
      λ q. elim (cases_lt q.0 i) [
        | inl less ↦ inl (q.0, less, q.2)
        | inr more ↦ let at : q.0 ≡ i = omega (arith, q.1, more) in inr (subst (λ m. Asks m k) at q.2)
      ],
    ))
    (lesser_outside (Below Asks i) (Asks i) list a b f g)

pub all_below : (Asks : ℕ → ℕ → Type 0) (A : ℕ → Type 0) (i n : ℕ) (list : List ℕ) (found : Option ℕ) → i ≡ n → ((k : ℕ) → A k ↔ Below Asks n k) → IsLeastOutside (Below Asks i) list found → IsLeastOutside A list found
all_below Asks A i n list found all same h =
    same_outside (Below Asks n) A list found (λ k. ((same k).1, (same k).0)) (subst (λ m. IsLeastOutside (Below Asks m) list found) all h)

-- a weight asks for the rule of its day
pub weight_asks : (P : Instance) (y : List Weight) (i : ℕ) (e : Weight) (list : List ℕ) (found : Option ℕ) → slice_get y i ≡ Some e → IsLeastOutside (IsDayRule P e.day) list found → IsLeastOutside (StandsOn P y i) list found
weight_asks P y i e list found is h =
    same_outside (IsDayRule P e.day) (StandsOn P y i) list found
    (λ k. (λ q. (e, is, q), λ q. subst (λ (w : Weight). IsDayRule P w.day k) (same_Some q.0 e (sym q.1 ∙ is)) q.2)) h

-- a rule asks for its number
pub rule_asks : (P : Instance) (listed : List Rule) (i n : ℕ) (r : Rule) (list : List ℕ) (found : Option ℕ) → slice_get listed i ≡ Some r → rule_of P n ≡ Some r → IsLeastOutside (λ k. k ≡ n) list found → IsLeastOutside (StandsFor P listed i) list found
rule_asks P listed i n r list found is number h =
    same_outside (λ k. k ≡ n) (StandsFor P listed i) list found
    (λ k. (
      λ e. (r, is, ap (rule_of P) e ∙ number),
      λ q. one_number P k n r (q.2 ∙ ap (λ (z : Rule). Some z) (same_Some q.0 r (sym q.1 ∙ is))) number,
    )) h

-- what the search for a number outside the list says of the rules that are cited, each of which has a number
pub found_unnamed : (P : Instance) (named : List ℕ) (Cited : Rule → Type 0) (A : ℕ → Type 0) (found : Option ℕ) → ((r : Rule) → Cited r → (k : ℕ) × (rule_of P k ≡ Some r)) → TellsCited P Cited A → IsLeastOutside A named found
    → IsLeastUnnamed P named Cited found
found_unnamed P named Cited A None numbered tells h =
    λ r cites. let k = numbered r cites in (k.0, h k.0 ((tells k.0).1 (r, k.1, cites)), k.1)
found_unnamed P named Cited A (Some n) numbered tells h =
    let here = (tells n).0 h.0.0 in (
      (here.0, here.1, here.2, λ in_it. h.0.1 (subst (Contains named) (one_number P in_it.0 n here.0 in_it.2 here.1) in_it.1)),
      λ i q. h.1 i ((tells i).1 (q.0, q.1, q.2), λ in_it. q.3 (i, in_it, q.1)),
    )

-- the rules of a line by those of its leaf
pub unnamed_by : (P : Instance) (named : List ℕ) (line : Line) (found : Option ℕ) → IsLeastUnnamed P named (Cites P line) found → MatchOption found (CitesOnlyNamed P named line) (λ k. IsLeast (IsUnnamed P named (Cites P line)) k)
unnamed_by P named line None h = h
unnamed_by P named line (Some k) h = h

-- rules that aren't short

pub short_number : (P : Instance) (k : ℕ) (r : Rule) → rule_of P k ≡ Some r → IsShortNumber P k → IsShort P r
short_number P k r is h = subst (IsShort P) (same_Some h.0 r (sym h.1 ∙ is)) h.2

abbrev pub AreShortBelow : Instance → List ℕ → ℕ → Type 0
AreShortBelow P R i = (m : ℕ) → m < i → IsShortNumber P (get_or R m 0)

-- the rule of a number in the list is short, if the number's place is below
short_below : (P : Instance) (R : List ℕ) (i k : ℕ) (r : Rule) → AreShortBelow P R i → (c : Contains R k) → c.0 < i → rule_of P k ≡ Some r → IsShort P r
short_below P R i k r below c less is =
    short_number P k r is (subst (IsShortNumber P) (get_or_default R c.0 0 k c.1 ∙ c.2) (below c.0 less))

pub all_short : (P : Instance) (R items : List ℕ) (i : ℕ) → items ≡ R → length items ≤ i → AreShortBelow P items i → NamesShortOnly P R
all_short P R items i e all below =
    subst (NamesShortOnly P) e
    (λ r named. let less : named.1.0 < i = omega (arith, named.1.1, all) in short_below P items i named.0 r below named.1 less named.2)

pub least_long_of : (P : Instance) (R items : List ℕ) (i n : ℕ) → items ≡ R → AreRules P R → i < length items → n ≡ get_or items i 0 → AreShortBelow P items i → (IsShortNumber P n → ⊥) → IsLeast (IsLongIn P R) n
least_long_of P R items i n e are inside is below long =
    let rules_here : AreRules P items = subst (AreRules P) (sym e) are in
    let within : (0 < get_or items i 0) × (get_or items i 0 ≤ length (rules P)) = All-get_or (λ k. (0 < k) × (k ≤ length (rules P))) items i 0 inside rules_here.1 in
    let r = rule_there P n (omega (arith, is, within.0)) (omega (arith, is, within.1)) in
    subst (λ z. IsLeast (IsLongIn P z) n) e (
      (r.0, r.1, (i, inside, get_or_default items i n 0 inside ∙ sym is), λ short. long (r.0, r.1, short)),
      λ k h. elim (cases_lt h.2.0 i) [
        | inl less ↦ absurd (h.3 (short_below P items i k h.0 below h.2 less h.1))
        | inr more ↦
            let order = rising items rules_here.0 i h.2.0 more h.2.1 in
            let same : get_or items h.2.0 0 ≡ k = get_or_default items h.2.0 0 k h.2.1 ∙ h.2.2 in
            omega (arith, order, same, is)
      ],
    )

-- by the answer of a test

pub not_so : (b : Bool) (A : Type 0) → (IsTrue b ↔ A) → b ≡ false → A → ⊥
not_so true A test e h = absurd (cc)
not_so false A test e h = absurd (let t : IsTrue false = test.1 h in cc)

pub is_so : (b : Bool) (A : Type 0) → (IsTrue b ↔ A) → b ≡ true → A
is_so true A test e = test.0 refl
is_so false A test e = absurd (cc)
