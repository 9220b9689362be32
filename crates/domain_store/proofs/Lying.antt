-- Where one domain lies, by the test that one symbol is alone in it or is not there.
use Rattle.std.proofs.Common.{◌≡◌, ◌≢◌, ℕ, ◌%◌, ◌<◌, length, refl, ap, sym, ◌∙◌, subst, arith, IsTrue, Bool, true, false, not, inl, inr}
use Rattle.std.specs.Prelude.{◌↔◌}
use Rattle.std.proofs.lemmas.Bool.{cases_eq}
use Rattle.rwsp_terms.specs.declared.data.Symbol.{Symbol}
use Rattle.rwsp_terms.specs.declared.data.Class.{Class}
use Rattle.rwsp_terms.specs.declared.data.Class.TheVariants.{Shift, Off, Work}
use Rattle.rwsp_terms.specs.Instance.{symbol_numbered}
use Rattle.rwsp_terms.specs.Window.{InClass}
use Rattle.domain_store.specs.Store.{Store, has_domain}
use Rattle.domain_store.specs.Views.{LiesIn, LiesOutside, left_in}

-- the domain of the position has this symbol alone
abbrev pub HasOnly : Store → ℕ → ℕ → Type 0
HasOnly S p x = (y : ℕ) → IsTrue (has_domain S p y) → y ≡ x

-- the same at a day, with the number of positions by its name
pub only_at : (S : Store) (day n x : ℕ) (A : Type 0) → n ≡ length S.sets → (A ↔ HasOnly S (day % n) x) → A ↔ HasOnly S (day % length S.sets) x
only_at S day n x A same h = (
  λ a. subst (λ m. HasOnly S (day % m) x) same (h.0 a),
  λ only. h.1 (subst (λ m. HasOnly S (day % m) x) (sym same) only),
)

pub has_at : (S : Store) (day n x : ℕ) (b : Bool) → n ≡ length S.sets → b ≡ has_domain S (day % n) x → b ≡ has_domain S (day % length S.sets) x
has_at S day n x b same h = h ∙ ap (λ m. has_domain S (day % m) x) same

pub in_shift : (S : Store) (day : ℕ) (x : Symbol) (c : Class) (A : Type 0) → c ≡ Shift x → (A ↔ HasOnly S (day % length S.sets) x.number) → A ↔ LiesIn (left_in S) c day
in_shift S day x c A is h = (
  λ a y has. subst (λ k. InClass k y) (sym is) (ap symbol_numbered (h.0 a y.number has)),
  λ lies. h.1 (λ y has. ap (λ (z : Symbol). z.number) (subst (λ k. InClass k (symbol_numbered y)) is (lies (symbol_numbered y) has))),
)

pub in_off : (S : Store) (day : ℕ) (c : Class) (A : Type 0) → c ≡ Off → (A ↔ HasOnly S (day % length S.sets) 0) → A ↔ LiesIn (left_in S) c day
in_off S day c A is h = (
  λ a y has. subst (λ k. InClass k y) (sym is) (h.0 a y.number has),
  λ lies. h.1 (λ y has. subst (λ k. InClass k (symbol_numbered y)) is (lies (symbol_numbered y) has)),
)

absent : (b c : Bool) → b ≡ c → IsTrue (not b) → IsTrue c → ⊥
absent true c e h g = cc
absent false c e h g = cc

not_there : (b c : Bool) → b ≡ c → (IsTrue c → ⊥) → IsTrue (not b)
not_there true c e h = absurd (h (sym e))
not_there false c e h = refl

some_number : (y : ℕ) → y ≢ 0 → 0 < y
some_number y other = omega (arith, other)

pub in_work : (S : Store) (day : ℕ) (c : Class) (b : Bool) → c ≡ Work → b ≡ has_domain S (day % length S.sets) 0 → IsTrue (not b) ↔ LiesIn (left_in S) c day
in_work S day c b is e = (
  λ h y has. subst (λ k. InClass k y) (sym is) (some_number y.number (λ zero.
      absent b (has_domain S (day % length S.sets) 0) e h (subst (λ z. IsTrue (has_domain S (day % length S.sets) z)) zero has))),
  λ lies. not_there b (has_domain S (day % length S.sets) 0) e (λ has.
      let less : 0 < 0 = subst (λ k. InClass k (symbol_numbered 0)) is (lies (symbol_numbered 0) has) in
      absurd (omega arith)),
)

pub outside_off : (S : Store) (day : ℕ) (c : Class) (b : Bool) → c ≡ Off → b ≡ has_domain S (day % length S.sets) 0 → IsTrue (not b) ↔ LiesOutside (left_in S) c day
outside_off S day c b is e = (
  λ h y has in_it.
      let zero : y.number ≡ 0 = subst (λ k. InClass k y) is in_it in
      absent b (has_domain S (day % length S.sets) 0) e h (subst (λ z. IsTrue (has_domain S (day % length S.sets) z)) zero has),
  λ lies. not_there b (has_domain S (day % length S.sets) 0) e (λ has.
      lies (symbol_numbered 0) has (let zero : 0 ≡ 0 = refl in subst (λ k. InClass k (symbol_numbered 0)) (sym is) zero)),
)

none_but_zero : (y : ℕ) → (0 < y → ⊥) → y ≡ 0
none_but_zero y h = elim (cases_eq y 0) [
  | inl same ↦ same
  | inr other ↦ absurd (h (some_number y other))
]

pub outside_work : (S : Store) (day : ℕ) (c : Class) (A : Type 0) → c ≡ Work → (A ↔ HasOnly S (day % length S.sets) 0) → A ↔ LiesOutside (left_in S) c day
outside_work S day c A is h = (
  λ a y has in_it.
      let less : 0 < y.number = subst (λ k. InClass k y) is in_it in
      let zero : y.number ≡ 0 = h.0 a y.number has in
      absurd (omega arith),
  λ lies. h.1 (λ y has. none_but_zero y (λ less. lies (symbol_numbered y) has (subst (λ k. InClass k (symbol_numbered y)) (sym is) less))),
)
