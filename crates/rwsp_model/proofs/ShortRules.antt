-- The list of all short rules, as far as it has come.
use Rattle.std.proofs.Common.{◌≡◌, ◌≢◌, ℕ, zero, suc, ◌+◌, ◌<◌, ◌≤◌, List, length, get_or, refl, ap, sym, ◌∙◌, subst, arith, Some, ◌⊎◌, inl, inr, ⊎_elim}
use Rattle.std.specs.Prelude.{All, Contains, ◌↔◌, nat_le, true}
use Rattle.std.specs.Bool.{Decides}
use Rattle.rwsp_terms.specs.declared.limits.TheConstants.{GREATEST_SHORT_BOUND}
use Rattle.std.specs.List.Sorted.{IsStrictlyIncreasing}
use Rattle.std.proofs.lemmas.Bool.{cases_eq}
use Rattle.std.proofs.lemmas.List.Elements.{Contains-get_or}
use Rattle.std.proofs.lemmas.Option.{slice_get_within, same_Some}
use Rattle.rwsp_terms.specs.Instance.{Instance}
use Rattle.rwsp_terms.specs.Rules.{rules, rule_of, IsShort, NamesShortRules}
use Rattle.rwsp_terms.specs.declared.data.Rule.{Rule}
use Rattle.rwsp_model.specs.RuleNumbers.{place_of, IsShortNumber}
use Rattle.rwsp_model.proofs.Numbering.{rule_numbered, number_at_place, rule_in_range}

-- a test that decides whether one rule is short, of an equal rule
pub short_by_test : (P : Instance) (r of : Rule) (n m : ℕ) → r ≡ of → n ≡ m → Decides (nat_le m GREATEST_SHORT_BOUND) (IsShort P of) → (nat_le n GREATEST_SHORT_BOUND ≡ true) ↔ IsShort P r
short_by_test P r of n m same bound test =
    let Q : Rule → Type 0 = λ s. (nat_le n GREATEST_SHORT_BOUND ≡ true) ↔ IsShort P s in
    let R : ℕ → Type 0 = λ k. Decides (nat_le k GREATEST_SHORT_BOUND) (IsShort P of) in
    subst Q (sym same) (subst R (sym bound) test)

-- a list with the number of a short rule more
pub put_short : (P : Instance) (old new : List ℕ) (n : ℕ) (r : Rule) → rule_of P n ≡ Some r → IsShort P r → ((k : ℕ) → Contains new k ↔ (Contains old k ⊎ (k ≡ n))) → (k : ℕ) → Contains new k ↔ (Contains old k ⊎ ((k ≡ n) × IsShortNumber P k))
put_short P old new n r numbered short holds = λ k. (
  λ h. ⊎_elim (λ (c : Contains old k). inl c) (λ (e : k ≡ n). inr (e, (r, ap (rule_of P) e ∙ numbered, short))) ((holds k).0 h),
  λ h. (holds k).1 (⊎_elim (λ (c : Contains old k). inl c) (λ (q : (k ≡ n) × IsShortNumber P k). inr q.0) h),
)

-- the list holds the short rules up to a number
pub record ListsUpTo (P : Instance) (R : List ℕ) (n : ℕ) : Type 0 where
  pub ascends : IsStrictlyIncreasing R
  pub numbers : (k : ℕ) → Contains R k ↔ ((k ≤ n) × IsShortNumber P k)

pub lists_more : (P : Instance) (old new : List ℕ) (n m : ℕ) → m ≡ n + 1 → ListsUpTo P old n → IsStrictlyIncreasing new → ((k : ℕ) → Contains new k ↔ (Contains old k ⊎ ((k ≡ n + 1) × IsShortNumber P k))) → ListsUpTo P new m
lists_more P old new n m next lists up holds = record {
  ascends = up;
  numbers = λ k. (
    λ c. ⊎_elim
        (λ (o : Contains old k). let f = (lists.numbers k).0 o in (omega (arith, f.0, next), f.1))
        (λ (q : (k ≡ n + 1) × IsShortNumber P k). (omega (arith, q.0, next), q.1))
        ((holds k).0 c),
    λ h. (holds k).1
        (⊎_elim
        (λ (e : k ≡ n + 1). inr (e, h.1))
        (λ (ne : k ≢ n + 1). inl ((lists.numbers k).1 (omega (arith, h.0, next, ne), h.1)))
        (cases_eq k (n + 1))),
  );
}

upto : (P : Instance) (k n : ℕ) → n ≡ length (rules P) → IsShortNumber P k → k ≤ n
upto P zero n all h = omega arith
upto P (suc k) n all h = let within = slice_get_within (rules P) k h.0 h.1 in omega (arith, within, all)

pub lists_all : (P : Instance) (R : List ℕ) (n : ℕ) → n ≡ length (rules P) → ListsUpTo P R n → (k : ℕ) → Contains R k ↔ IsShortNumber P k
lists_all P R n all lists k = (λ c. ((lists.numbers k).0 c).1, λ h. (lists.numbers k).1 (upto P k n all h, h))

pub all_in_range : (P : Instance) (R : List ℕ) → ((k : ℕ) → Contains R k ↔ IsShortNumber P k) → All (λ k. (0 < k) × (k ≤ length (rules P))) R
all_in_range P R numbers = λ i d less. let one = (numbers (get_or R i d)).0 (Contains-get_or R i d less) in rule_in_range P (get_or R i d) one.0 one.1

pub names_all : (P : Instance) (R : List ℕ) → ((k : ℕ) → Contains R k ↔ IsShortNumber P k) → NamesShortRules P R
names_all P R numbers r = (
  λ named.
      let short = (numbers named.0).0 named.1 in
      let same : short.0 ≡ r = same_Some short.0 r (sym short.1 ∙ named.2) in
      ((rule_numbered P named.0 r named.2).0, subst (λ (z : Rule). IsShort P z) same short.2),
  λ h.
      let number : rule_of P (place_of P r + 1) ≡ Some r = number_at_place P r (place_of P r + 1) h.0 refl in
      (place_of P r + 1, (numbers (place_of P r + 1)).1 (r, number, h.1), number),
)
