-- Ascending lists of symbols.
use Rattle.std.proofs.Common.{◌≡◌, ℕ, zero, suc, ◌+◌, ◌<◌, ◌≤◌, List, [], ◌∷◌, length, Bool, true, false, cond, refl, ap, sym, ◌∙◌, arith, subst, get_or, set, eqb, inl, inr, leb, ltb}
use Rattle.std.specs.Prelude.{◌||◌, not, filter, slice_get, Some, None, All, AllPairs, ◌&&◌}
use Rattle.std.specs.List.{range_with_len}
use Rattle.std.specs.List.Sorted.{IsStrictlyIncreasing}
use Rattle.std.proofs.lemmas.Bool.{or_cases, eqb-true, eq-eqb, ne_eqb, cases_eq, false≢true}
use Rattle.std.proofs.lemmas.List.Elements.{All-head, All-tail, All-cons, All-nil, All-filter, All-from_get_or}
use Rattle.std.proofs.lemmas.List.Kept.{AllPairs-from_increasing, IsStrictlyIncreasing-filter}
use Rattle.std.proofs.lemmas.List.FromFn.{length-range_with_len, get_or-range_with_len}
use Rattle.std.proofs.lemmas.Bool.Decides.{nat_tests}
use Rattle.domain_store.specs.Sets.{has_symbol, without_symbol, IsDomain}

-- the first number, where there is just one
pub only_number : (set : List ℕ) (x : ℕ) → length set ≡ 1 → slice_get set 0 ≡ Some x → set ≡ x ∷ []
only_number [] x long first = absurd (omega arith)
only_number (y ∷ []) x long first = let e : y ≡ x = cc in ap (λ z. z ∷ []) e
only_number (y ∷ z ∷ set) x long first = absurd (omega arith)

pub no_number : (set : List ℕ) → length set ≡ 1 → slice_get set 0 ≡ None → ⊥
no_number [] long first = omega arith
no_number (y ∷ set) long first = cc

-- a symbol of the set is one of the symbols
pub has_symbol_within : (last x : ℕ) (set : List ℕ) → All (λ y. y ≤ last) set → has_symbol set x ≡ true → x ≤ last
has_symbol_within last x [] small has = absurd (false≢true has)
has_symbol_within last x (y ∷ set) small has =
    elim (or_cases (eqb y x) (has_symbol set x) has) [
      | inl here ↦ subst (λ z. z ≤ last) (eqb-true y x here) (All-head (λ z. z ≤ last) y set small)
      | inr later ↦ has_symbol_within last x set (All-tail (λ z. z ≤ last) y set small) later
    ]

-- a symbol is among those that pass a test where it passes and is there
moved : (b : Bool) (z x : ℕ) (set : List ℕ) → has_symbol (cond b (z ∷ set) set) x ≡ cond b (eqb z x || has_symbol set x) (has_symbol set x)
moved true z x set = refl
moved false z x set = refl

stepped : (first wanted here there : Bool) → (here ≡ true → first ≡ wanted) → cond first (here || (wanted && there)) (wanted && there) ≡ (wanted && (here || there))
stepped true true here there h = refl
stepped false false here there h = refl
stepped true false false there h = refl
stepped false true false there h = refl
stepped true false true there h = absurd (false≢true (sym (h refl)))
stepped false true true there h = absurd (false≢true (h refl))

and-false : (b : Bool) → false ≡ (b && false)
and-false true = refl
and-false false = refl

pub has_filter : (f : ℕ → Bool) (x : ℕ) (set : List ℕ) → has_symbol (filter f set) x ≡ (f x && has_symbol set x)
has_filter f x [] = and-false (f x)
has_filter f x (z ∷ set) =
    moved (f z) z x (filter f set)
    ∙ ap (λ later. cond (f z) (eqb z x || later) later) (has_filter f x set)
    ∙ stepped (f z) (f x) (eqb z x) (has_symbol set x) (λ here. ap f (eqb-true z x here))

-- the set less a symbol has the others
pub has_without : (x y : ℕ) (set : List ℕ) → has_symbol (without_symbol x set) y ≡ (not (eqb y x) && has_symbol set y)
has_without x y set = has_filter (λ z. not (eqb z x)) y set

increasing-rest : (y : ℕ) (set : List ℕ) → AllPairs (λ a b. a < b) (y ∷ set) → AllPairs (λ a b. a < b) set
increasing-rest y set rises i j d less within = let w : suc j < length (y ∷ set) = omega arith in let l : suc i < suc j = omega arith in rises (suc i) (suc j) d l w

above-first : (y : ℕ) (set : List ℕ) → AllPairs (λ a b. a < b) (y ∷ set) → All (λ z. y < z) set
above-first y set rises k d within = let w : suc k < length (y ∷ set) = omega arith in let l : 0 < suc k = omega arith in rises 0 (suc k) d l w

without-above : (y : ℕ) (set : List ℕ) → All (λ z. y < z) set → without_symbol y set ≡ set
without-above y [] above = refl
without-above y (z ∷ set) above =
    let first : y < z = All-head (λ w. y < w) z set above in
    let other : eqb z y ≡ false = grind (arith, nat_tests) in
    ap (λ b. cond (not b) (z ∷ without_symbol y set) (without_symbol y set)) other ∙ ap (λ s. z ∷ s) (without-above y set (All-tail (λ w. y < w) z set above))

without-shorter : (x : ℕ) (set : List ℕ) → AllPairs (λ a b. a < b) set → has_symbol set x ≡ true → length (without_symbol x set) + 1 ≡ length set
without-shorter x [] rises has = absurd (false≢true has)
without-shorter x (y ∷ set) rises has =
    elim (cases_eq y x) [
      | inl same ↦
          let here : eqb y x ≡ true = eq-eqb y x same in
          let rest : without_symbol x set ≡ set = subst (λ z. without_symbol z set ≡ set) same (without-above y set (above-first y set rises)) in
          let e : without_symbol x (y ∷ set) ≡ set = ap (λ b. cond (not b) (y ∷ without_symbol x set) (without_symbol x set)) here ∙ rest in
          omega (arith, ap length e)
      | inr other ↦
          let off : eqb y x ≡ false = ne_eqb y x other in
          let later : has_symbol set x ≡ true = sym (ap (λ b. b || has_symbol set x) off) ∙ has in
          let e : without_symbol x (y ∷ set) ≡ y ∷ without_symbol x set = ap (λ b. cond (not b) (y ∷ without_symbol x set) (without_symbol x set)) off in
          omega (arith, ap length e, without-shorter x set (increasing-rest y set rises) later)
    ]

-- a set less one of its symbols is shorter by one
pub length_without : (x : ℕ) (set : List ℕ) → IsStrictlyIncreasing set → has_symbol set x ≡ true → length (without_symbol x set) + 1 ≡ length set
length_without x set rises has = without-shorter x set (AllPairs-from_increasing set rises) has

-- a domain less one of its symbols, where there is another, is one
pub IsDomain_without : (last x : ℕ) (set : List ℕ) → IsDomain last set → has_symbol set x ≡ true → 2 ≤ length set → IsDomain last (without_symbol x set)
IsDomain_without last x set domain has another = record {
  some = omega (arith, length_without x set domain.ascends has);
  ascends = IsStrictlyIncreasing-filter (λ y. not (eqb y x)) set domain.ascends;
  symbols = All-filter (λ y. not (eqb y x)) (λ y. y ≤ last) set domain.symbols;
}

-- a symbol alone
pub IsDomain_single : (last x : ℕ) → x ≤ last → IsDomain last (x ∷ [])
IsDomain_single last x small = record {
  some = omega arith;
  ascends = λ k within. absurd (omega arith);
  symbols = All-cons (λ y. y ≤ last) x [] small (All-nil (λ y. y ≤ last));
}

range-rises : (k n i : ℕ) → i + 1 < n → get_or (range_with_len k n) i 0 < get_or (range_with_len k n) (i + 1) 0
range-rises k n i less =
    let l : i < n = omega arith in
    omega (arith, get_or-range_with_len k n i 0 l, get_or-range_with_len k n (i + 1) 0 less)

-- all symbols
pub IsDomain_full : (last : ℕ) → IsDomain last (range_with_len 0 (last + 1))
IsDomain_full last = record {
  some = omega (arith, length-range_with_len 0 (last + 1));
  ascends = λ k within. let less : k + 1 < last + 1 = omega (arith, length-range_with_len 0 (last + 1)) in range-rises 0 (last + 1) k less;
  symbols = All-from_get_or (λ y. y ≤ last) (range_with_len 0 (last + 1)) 0 (λ i within.
      let less : i < last + 1 = omega (arith, length-range_with_len 0 (last + 1)) in omega (arith, get_or-range_with_len 0 (last + 1) i 0 less));
}

range-none : (k x : ℕ) → false ≡ (leb k x && ltb x (k + 0))
range-none k x = grind (arith, nat_tests)

range-next : (k n x : ℕ) → (eqb k x || (leb (k + 1) x && ltb x (k + 1 + n))) ≡ (leb k x && ltb x (k + suc n))
range-next k n x = grind (arith, nat_tests)

pub range_has : (k n x : ℕ) → has_symbol (range_with_len k n) x ≡ (leb k x && ltb x (k + n))
range_has k zero x = range-none k x
range_has k (suc n) x = ap (λ b. eqb k x || b) (range_has (k + 1) n x) ∙ range-next k n x

range-all : (last x : ℕ) → (leb 0 x && ltb x (0 + (last + 1))) ≡ leb x last
range-all last x = grind (arith, nat_tests)

-- which symbols there are
pub has_symbol_full : (last x : ℕ) → has_symbol (range_with_len 0 (last + 1)) x ≡ leb x last
has_symbol_full last x = range_has 0 (last + 1) x ∙ range-all last x
