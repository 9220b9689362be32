-- The least rest, from shift to shift.
use Rattle.std.proofs.Common.{◌≡◌, ℕ, ◌+◌, ◌<◌, ◌≤◌, ◌⊎◌, List, Bool, true, false, Option, Some, None, refl, ap, sym, subst, ◌∙◌, arith, inl, inr}
use Rattle.std.specs.Prelude.{nat_le, if◌then◌else◌}
use Rattle.std.proofs.lemmas.Bool.{leb-true, leb-false}
use Rattle.rwsp_terms.specs.Instance.{Instance}
use Rattle.rwsp_terms.specs.Window.{cell}
use Rattle.rwsp_terms.specs.declared.data.Symbol.{Symbol}
use Rattle.roster_page.specs.LeastRest.{IsNext, IsLeast, IsLeastBelow, rest_after, lesser}

no_earlier : (s : List Symbol) (p m n : ℕ) → IsNext s p m → IsNext s p n → m < n → ⊥
no_earlier s p m n a b less =
    let off : (cell s (p + m)).number ≡ 0 = b.between m a.some less in
    let on = a.there in
    omega (arith, off, on)

one_next : (s : List Symbol) (p m n : ℕ) → IsNext s p m → IsNext s p n → m ≡ n
one_next s p m n a b =
    elim (nat_le m n) as (λ (t : Bool). nat_le m n ≡ t → m ≡ n) [
      | true ↦ λ le.
          elim (nat_le n m) as (λ (t : Bool). nat_le n m ≡ t → m ≡ n) [
            | true ↦ λ ge. omega (arith, leb-true m n le, leb-true n m ge)
            | false ↦ λ lt. absurd (no_earlier s p m n a b (omega (arith, leb-false n m lt)))
          ] refl
      | false ↦ λ gt. absurd (no_earlier s p n m b a (omega (arith, leb-false m n gt)))
    ] refl

-- a place below the next bound is below this one, or is it
below_or_at : (q p : ℕ) → q < p + 1 → (q < p) ⊎ (q ≡ p)
below_or_at q p less =
    elim (nat_le p q) as (λ (t : Bool). nat_le p q ≡ t → (q < p) ⊎ (q ≡ p)) [
      | true ↦ λ ge. inr (omega (arith, less, leb-true p q ge))
      | false ↦ λ lt. inl (omega (arith, leb-false p q lt))
    ] refl

-- no shift is at the place
pub least_same : (P : Instance) (s : List Symbol) (p : ℕ) (o : Option ℕ) → (cell s p).number ≡ 0 → IsLeastBelow P s p o → IsLeastBelow P s (p + 1) o
least_same P s p None off h = λ q less.
    elim (below_or_at q p less) [
      | inl below ↦ h q below
      | inr at ↦ ap (λ (r : ℕ). (cell s r).number) at ∙ off
    ]
least_same P s p (Some m) off h = record {
  none_less = λ q n less next. elim (below_or_at q p less) [
    | inl below ↦ h.none_less q n below next
    | inr at ↦
        let here : 0 < (cell s q).number = next.here in
        let none : (cell s q).number ≡ 0 = ap (λ (r : ℕ). (cell s r).number) at ∙ off in
        absurd (omega (arith, here, none))
  ];
  place = h.place;
  days = h.days;
  within = let low = h.within in omega (arith, low);
  next = h.next;
  reached = h.reached;
}

-- the rest behind the shift at the place is at least this
at_place : (P : Instance) (s : List Symbol) (p q m n k : ℕ) → IsNext s p n → m ≤ rest_after P s p n → q ≡ p → IsNext s q k → m ≤ rest_after P s q k
at_place P s p q m n k next le at other =
    let moved : IsNext s p k = subst (λ (r : ℕ). IsNext s r k) at other in
    let same : n ≡ k = one_next s p n k next moved in
    subst (λ (r : ℕ). m ≤ rest_after P s r k) (sym at) (subst (λ (j : ℕ). m ≤ rest_after P s p j) same le)

-- one shift alone
first_least : (P : Instance) (s : List Symbol) (p m n : ℕ) → IsNext s p n → m ≡ rest_after P s p n → ((q k : ℕ) → q < p → IsNext s q k → m ≤ rest_after P s q k) → IsLeast P s (p + 1) m
first_least P s p m n next is below = record {
  none_less = λ q k less other. elim (below_or_at q p less) [
    | inl low ↦ below q k low other
    | inr at ↦ at_place P s p q m n k next (omega (arith, is)) at other
  ];
  place = p;
  days = n;
  within = omega arith;
  next = next;
  reached = is;
}

-- a shift is at the place
pub least_more : (P : Instance) (s : List Symbol) (p m n : ℕ) (o : Option ℕ) → IsNext s p n → m ≡ rest_after P s p n → IsLeastBelow P s p o → IsLeastBelow P s (p + 1) (lesser o m)
least_more P s p m n None next is h =
    first_least P s p m n next is (λ q k less other.
    let off = h q less in
    let on = other.here in
    absurd (omega (arith, off, on)))
least_more P s p m n (Some l) next is h =
    elim (nat_le l m) as (λ (t : Bool). nat_le l m ≡ t → IsLeastBelow P s (p + 1) (if t then Some l else Some m)) [
      | true ↦ λ le. record {
        none_less = λ q k less other. elim (below_or_at q p less) [
          | inl low ↦ h.none_less q k low other
          | inr at ↦ at_place P s p q l n k next (omega (arith, leb-true l m le, is)) at other
        ];
        place = h.place;
        days = h.days;
        within = let low = h.within in omega (arith, low);
        next = h.next;
        reached = h.reached;
      }
      | false ↦ λ gt. first_least P s p m n next is (λ q k less other.
          let old = h.none_less q k less other in
          omega (arith, leb-false l m gt, old))
    ] refl
