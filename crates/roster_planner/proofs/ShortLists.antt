-- There is a list of all short rules.
use Rattle.std.proofs.Common.{◌≡◌, ℕ, zero, suc, ◌<◌, ◌≤◌, List, [], ◌∷◌, length, refl, sym, ◌∙◌, subst, arith, Option, Some, None, ◌⊎◌, inl, inr, ⊎_elim}
use Rattle.std.specs.Prelude.{Contains, ◌↔◌}
use Rattle.std.proofs.lemmas.Bool.{cases_lt}
use Rattle.rwsp_terms.specs.declared.limits.TheConstants.{GREATEST_SHORT_BOUND}
use Rattle.rwsp_terms.specs.declared.data.Rule.{Rule}
use Rattle.rwsp_terms.specs.declared.data.Rule.TheVariants.{Most, Least, Never, Day}
use Rattle.rwsp_terms.specs.Instance.{Instance, bounds}
use Rattle.rwsp_terms.specs.Rules.{rules, rule_of, IsShort, NamesShortRules}
use Rattle.rwsp_terms.proofs.Ascending.{Contains-cons, Contains-first, Contains-later}
use Rattle.rwsp_model.specs.RuleNumbers.{IsShortNumber}
use Rattle.rwsp_model.proofs.Numbering.{rule_in_range}
use Rattle.rwsp_model.proofs.ShortRules.{names_all}
use Rattle.std.proofs.lemmas.Option.{same_Some}

abbrev OrNot : Type 0 → Type 0
OrNot A = A ⊎ (A → ⊥)

at_most : (n : ℕ) → OrNot (n ≤ GREATEST_SHORT_BOUND)
at_most n = ⊎_elim (λ (more : GREATEST_SHORT_BOUND < n). inr (λ few. omega (arith, more, few))) (λ (few : n ≤ GREATEST_SHORT_BOUND). inl few) (cases_lt GREATEST_SHORT_BOUND n)

short_or_not : (P : Instance) (r : Rule) → OrNot (IsShort P r)
short_or_not P (Most c) = at_most (bounds P c).greatest
short_or_not P (Least c) = at_most (bounds P c).least
short_or_not P (Never k) = inl tt
short_or_not P (Day j) = inr (λ h. h)

short_number_by : (P : Instance) (k : ℕ) (o : Option Rule) → rule_of P k ≡ o → OrNot (IsShortNumber P k)
short_number_by P k None is = inr (λ h. let none : None ≡ Some h.0 = sym is ∙ h.1 in absurd (cc none))
short_number_by P k (Some r) is =
    ⊎_elim
    (λ (short : IsShort P r). inl (r, is, short))
    (λ (long : IsShort P r → ⊥). inr (λ h. let same : h.0 ≡ r = same_Some h.0 r (sym h.1 ∙ is) in long (subst (IsShort P) same h.2)))
    (short_or_not P r)

-- the list has the numbers of short rules up to one
abbrev Lists : Instance → List ℕ → ℕ → Type 0
Lists P R n = (k : ℕ) → Contains R k ↔ ((k ≤ n) × IsShortNumber P k)

lists_none : (P : Instance) → Lists P [] 0
lists_none P k = (
  λ c. absurd (omega (arith, c.1)),
  λ h. let within = rule_in_range P k h.1.0 h.1.1 in absurd (omega (arith, within.0, h.0)),
)

lists_more : (P : Instance) (R : List ℕ) (n : ℕ) → Lists P R n → OrNot (IsShortNumber P (suc n)) → (S : List ℕ) × Lists P S (suc n)
lists_more P R n lists (inl short) = (
  suc n ∷ R,
  λ k. (
    λ c. ⊎_elim
        (λ (in_tail : Contains R k). let f = (lists k).0 in_tail in (omega (arith, f.0), f.1))
        (λ (e : k ≡ suc n). (omega (arith, e), subst (IsShortNumber P) (sym e) short))
        (Contains-cons (suc n) R k c),
    λ h. ⊎_elim
        (λ (less : k < suc n). Contains-later (suc n) R k ((lists k).1 (omega (arith, less), h.1)))
        (λ (most : suc n ≤ k). Contains-first (suc n) R k (omega (arith, most, h.0)))
        (cases_lt k (suc n)),
  ),
)
lists_more P R n lists (inr long) = (
  R,
  λ k. (
    λ c. let f = (lists k).0 c in (omega (arith, f.0), f.1),
    λ h. ⊎_elim
        (λ (less : k < suc n). (lists k).1 (omega (arith, less), h.1))
        (λ (most : suc n ≤ k). let e : k ≡ suc n = omega (arith, most, h.0) in absurd (long (subst (IsShortNumber P) e h.1)))
        (cases_lt k (suc n)),
  ),
)

some_lists : (P : Instance) (n : ℕ) → (R : List ℕ) × Lists P R n
some_lists P zero = ([], lists_none P)
some_lists P (suc n) = let before = some_lists P n in lists_more P before.0 n before.1 (short_number_by P (suc n) (rule_of P (suc n)) refl)

pub some_short_rules : (P : Instance) → (R : List ℕ) × NamesShortRules P R
some_short_rules P =
    let all = some_lists P (length (rules P)) in
    (all.0, names_all P all.0 (λ k. (λ c. ((all.1 k).0 c).1, λ h. (all.1 k).1 ((rule_in_range P k h.0 h.1).1, h))))
