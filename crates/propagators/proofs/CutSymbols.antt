-- Symbols that no word of two turns has.
use Rattle.std.proofs.Common.{◌≡◌, ℕ, ◌+◌, ◌*◌, ◌<◌, ◌≤◌, List, length, get_or, [], refl, ap, sym, ◌∙◌, subst, arith, Bool, true, false, not, IsTrue, inl, inr}
use Rattle.std.specs.Prelude.{◌↔◌}
use Rattle.std.proofs.lemmas.Bool.{cases_eq}
use Rattle.rwsp_terms.specs.declared.data.Symbol.{Symbol}
use Rattle.rwsp_terms.specs.Instance.{Instance, cells, symbol_numbered}
use Rattle.refutation_terms.specs.Tree.{is_idle}
use Rattle.refutation_terms.specs.Sharp.{NoWordHas}
use Rattle.refutation_terms.proofs.InWords.{idle_as_said}
use Rattle.domain_store.specs.Sets.{has_symbol}
use Rattle.domain_store.specs.Store.{Store, BelongsTo, domain_at, has_domain, HasDomains}
use Rattle.propagators.specs.Known.{KnownCycle, knows_symbol, KnowsDomains}
use Rattle.propagators.specs.CycleCuts.{IsUnsupported}

pub cells_of_store : (P : Instance) (S : Store) → BelongsTo P S → S.weeks * S.days ≡ cells P
cells_of_store P S b = ap (λ w. w * S.days) b.weeks ∙ ap (λ d. P.weeks * d) b.days

-- the known domains are the store's

pub nowhere_in_store : (C : KnownCycle) (S : Store) (p : ℕ) (x : Symbol) → C.sets ≡ S.sets → NoWordHas C.problem (knows_symbol C) C.rules p x → NoWordHas C.problem (has_domain S) C.rules p x
nowhere_in_store C S p x e h =
    let F : List (List ℕ) → Type 0 = λ sets. NoWordHas C.problem (λ q y. has_symbol (get_or sets q []) y) C.rules p x in
    subst F e h

pub nowhere_known : (C : KnownCycle) (S : Store) (p : ℕ) (x : Symbol) → C.sets ≡ S.sets → NoWordHas C.problem (has_domain S) C.rules p x → NoWordHas C.problem (knows_symbol C) C.rules p x
nowhere_known C S p x e h =
    let F : List (List ℕ) → Type 0 = λ sets. NoWordHas C.problem (λ q y. has_symbol (get_or sets q []) y) C.rules p x in
    subst F (sym e) h

-- whether a symbol is unsupported

pub none_beside : (C : KnownCycle) (S : Store) (p n : ℕ) (x : Symbol) → HasDomains S → n ≡ length (domain_at S p) → 1 ≤ n → n < 2 → IsUnsupported C S p x → ⊥
none_beside C S p n x h is some few u =
    let one : length (domain_at S p) ≡ 1 = omega (arith, is, some, few) in
    let both = (idle_as_said C.problem (has_domain S) p x.number).0 u.useful in
    both.1.2 (h.alone p both.1.0 x.number one both.1.3 both.0)

pub beside_another : (P : Instance) (S : Store) (p x : ℕ) → BelongsTo P S → HasDomains S → IsTrue (has_domain S p x) → 2 ≤ length (domain_at S p) → is_idle P (has_domain S) p x ≡ false
beside_another P S p x b h has many =
    let other = h.others p x many in
    (idle_as_said P (has_domain S) p x).1 (has, (other.0, omega (arith, (h.known p other.0 other.2).1, b.shifts), other.1, other.2))

not_of : (b : Bool) → b ≡ false → IsTrue (not b)
not_of true e = absurd (cc)
not_of false e = refl

of_not : (b : Bool) → IsTrue (not b) → b ≡ false
of_not true e = absurd (cc)
of_not false e = refl

pub unsupported_if : (C : KnownCycle) (S : Store) (p n : ℕ) (x : Symbol) (supported : Bool) → KnowsDomains C S → HasDomains S → p < cells C.problem → n ≡ length (domain_at S p) → 2 ≤ n → IsTrue (has_domain S p x.number)
    → (supported ≡ false) ↔ NoWordHas C.problem (knows_symbol C) C.rules p x → IsTrue (not supported) ↔ IsUnsupported C S p x
unsupported_if C S p n x supported stands h within is many has test = (
  λ none. record {
    position = within;
    useful = beside_another C.problem S p x.number stands.belongs h has (omega (arith, is, many));
    nowhere = nowhere_in_store C S p x stands.sets (test.0 (of_not supported none));
  },
  λ u. not_of supported (test.1 (nowhere_known C S p x stands.sets u.nowhere)),
)

-- one more number, one more position

pub one_number_more : (C : KnownCycle) (S : Store) (p n : ℕ) (b : Bool) → ((x : Symbol) → x.number < n → IsUnsupported C S p x → ⊥) → IsTrue b ↔ IsUnsupported C S p (symbol_numbered n) → b ≡ false → (x : Symbol) → x.number < n + 1 → IsUnsupported C S p x → ⊥
one_number_more C S p n b before here none x less u =
    elim (cases_eq x.number n) [
      | inl same ↦
          let e : x ≡ symbol_numbered n = ap symbol_numbered same in
          unlike b none (here.1 (subst (λ (y : Symbol). IsUnsupported C S p y) e u))
      | inr other ↦ before x (omega (arith, less, other)) u
    ]
  where
    unlike : (c : Bool) → c ≡ false → IsTrue c → ⊥
    unlike c e h = cc

pub one_position_more : (C : KnownCycle) (S : Store) (n : ℕ) → ((p : ℕ) (x : Symbol) → p < n → IsUnsupported C S p x → ⊥) → ((x : Symbol) → IsUnsupported C S n x → ⊥) → (p : ℕ) (x : Symbol) → p < n + 1 → IsUnsupported C S p x → ⊥
one_position_more C S n before here p x less u =
    elim (cases_eq p n) [
      | inl same ↦ here x (subst (λ q. IsUnsupported C S q x) same u)
      | inr other ↦ before p x (omega (arith, less, other)) u
    ]

pub symbol_within : (C : KnownCycle) (S : Store) (p : ℕ) (x : Symbol) → HasDomains S → IsUnsupported C S p x → x.number ≤ S.shifts
symbol_within C S p x h u = (h.known p x.number ((idle_as_said C.problem (has_domain S) p x.number).0 u.useful).0).1
