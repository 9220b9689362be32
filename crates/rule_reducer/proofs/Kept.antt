-- Lists of numbers and weights without one number or one day.
use Rattle.std.proofs.Common.{◌≡◌, ◌≢◌, ℕ, ◌+◌, ◌<◌, ◌≤◌, List, [], ◌∷◌, ◌++◌, length, take, get_or, ap, sym, ◌∙◌, subst, refl, arith, ◌⊎◌, inl, inr, Some, Bool, true, false, cond, not, ◌==◌, pos, length-take-le, get_or-take}
use Rattle.std.specs.Prelude.{All, AllPairs, Contains}
use Rattle.std.specs.List.Sorted.{IsStrictlyIncreasing}
use Rattle.std.specs.List.{filter, count_by}
use Rattle.std.proofs.lemmas.Bool.{eq-eqb, ne_eqb}
use Rattle.std.proofs.lemmas.List.{get_or_default, take_more, take_all}
use Rattle.std.proofs.lemmas.List.Elements.{All-take, All-filter, All-contains, All-contains_itself, filter_passes, filter-append}
use Rattle.std.proofs.lemmas.List.Filters.{length-filter_both}
use Rattle.std.proofs.lemmas.List.Sums.{length-filter, count_by-le-length}
use Rattle.std.proofs.lemmas.List.Kept.{AllPairs-filter, AllPairs-from_increasing, IsStrictlyIncreasing-filter}
use Rattle.rwsp_terms.specs.declared.data.Rule.TheVariants.{Day}
use Rattle.rwsp_terms.specs.declared.data.Weight.{Weight}
use Rattle.rwsp_terms.specs.Weights.{AreWeights, ComesBefore, IsWeight}
use Rattle.rwsp_terms.proofs.Ascending.{increasing_from_pairs, Contains-cons, Contains-first, Contains-later}
use Rattle.refutation_terms.specs.Strip.{without_rule, without_day}

-- numbers

pub kept_first : (n m : ℕ) (R : List ℕ) → m ≢ n → without_rule n (m ∷ R) ≡ m ∷ without_rule n R
kept_first n m R ne = ap (λ b. cond (not b) (m ∷ without_rule n R) (without_rule n R)) (ne_eqb m n ne)

pub passed_other : (n k : ℕ) → not (k == n) ≡ true → k ≢ n
passed_other n k e same = let no : false ≡ true = ap not (sym (eq-eqb k n same)) ∙ e in cc

-- what the shorter list holds
pub was_listed : (n : ℕ) (R : List ℕ) (k : ℕ) → Contains (without_rule n R) k → Contains R k × (k ≢ n)
was_listed n R k c =
    let test : ℕ → Bool = λ m. not (m == n) in
    let other : not (k == n) ≡ true = All-contains (λ m. test m ≡ true) (without_rule n R) k (filter_passes test R) c in
    (All-contains (Contains R) (without_rule n R) k (All-filter test (Contains R) R (All-contains_itself R)) c, passed_other n k other)

there_by : (p : ℕ → Bool) (m k : ℕ) (R kept : List ℕ) (b : Bool) → p m ≡ b → p k ≡ true → (Contains R k → Contains kept k) → Contains R k ⊎ (k ≡ m) → Contains (cond b (m ∷ kept) kept) k
there_by p m k R kept true e passes rest (inl later) = Contains-later m kept k (rest later)
there_by p m k R kept true e passes rest (inr same) = Contains-first m kept k same
there_by p m k R kept false e passes rest (inl later) = rest later
there_by p m k R kept false e passes rest (inr same) = absurd (let no : p m ≡ true = subst (λ j. p j ≡ true) same passes in cc)

-- a filter keeps what passes
still_there : (p : ℕ → Bool) (R : List ℕ) (k : ℕ) → p k ≡ true → Contains R k → Contains (filter p R) k
still_there p [] k passes c = absurd (omega (arith, c.1))
still_there p (m ∷ R) k passes c = there_by p m k R (filter p R) (p m) refl passes (λ later. still_there p R k passes later) (Contains-cons m R k c)

pub still_listed : (n : ℕ) (R : List ℕ) (k : ℕ) → Contains R k → k ≢ n → Contains (without_rule n R) k
still_listed n R k c ne = still_there (λ m. not (m == n)) R k (ap not (ne_eqb k n ne)) c

pub not_longer : (n : ℕ) (R : List ℕ) → length (without_rule n R) ≤ length R
not_longer n R =
    let count : length (without_rule n R) ≡ count_by (λ m. not (m == n)) R = length-filter (λ m. not (m == n)) R in
    omega (arith, count, count_by-le-length (λ m. not (m == n)) R)

pub shorter : (n : ℕ) (R : List ℕ) → Contains R n → length (without_rule n R) < length R
shorter n R c =
    let gone : ℕ → Bool = λ m. not (not (m == n)) in
    let both : length (without_rule n R) + length (filter gone R) ≡ length R = length-filter_both (λ m. not (m == n)) gone (λ m. refl) R in
    let one = still_there gone R n (ap (λ b. not (not b)) (eq-eqb n n refl)) c in
    let some : one.0 < length (filter gone R) = one.1 in
    omega (arith, both, some)

-- fronts of lists in order

front_pairs : {X : Type 0} (R : X → X → Type 0) (xs : List X) (i : ℕ) (d : X) → AllPairs R xs → i < length xs → All (λ x. R x (get_or xs i d)) (take i xs)
front_pairs R xs i d pairs less = λ k e low.
    let long : length (take i xs) ≡ i = length-take-le i xs (omega (arith, less)) in
    let lt : k < i = omega arith in
    let same = get_or-take i xs k e lt ∙ get_or_default xs k e d (omega (arith, lt, less)) in
    subst (λ x. R x (get_or xs i d)) (sym same) (pairs k i d lt less)

take_pairs : {X : Type 0} (R : X → X → Type 0) (xs : List X) (i : ℕ) → i ≤ length xs → AllPairs R xs → AllPairs R (take i xs)
take_pairs R xs i within pairs = λ j k d lt less.
    let long : length (take i xs) ≡ i = length-take-le i xs within in
    let low : k < i = omega arith in
    subst (λ x. R x (get_or (take i xs) k d)) (sym (get_or-take i xs j d (omega (arith, lt, low))))
    (subst (λ x. R (get_or xs j d) x) (sym (get_or-take i xs k d low)) (pairs j k d lt (omega (arith, low, within))))

pub lower_in_front : (R : List ℕ) (n i d : ℕ) → IsStrictlyIncreasing R → i < length R → All (λ k. k < get_or R i d) (without_rule n (take i R))
lower_in_front R n i d up less =
    All-filter (λ k. not (k == n)) (λ k. k < get_or R i d) (take i R) (front_pairs (λ x y. x < y) R i d (AllPairs-from_increasing R up) less)

pub front_ascends : (R : List ℕ) (n i : ℕ) → IsStrictlyIncreasing R → i ≤ length R → IsStrictlyIncreasing (without_rule n (take i R))
front_ascends R n i up within =
    IsStrictlyIncreasing-filter (λ k. not (k == n)) (take i R)
    (increasing_from_pairs (take i R) (take_pairs (λ x y. x < y) R i within (AllPairs-from_increasing R up)))

-- weights

abbrev pub no_weight : Weight
no_weight = record { day = 0; symbol = record { number = 0 }; value = pos 0 }

abbrev off_day : ℕ → Weight → Bool
off_day j e = not (e.day == j)

pub before_in_front : (y : List Weight) (j i : ℕ) (d : Weight) → AreWeights y → i < length y → All (λ (e : Weight). ComesBefore e (get_or y i d)) (without_day (Some (Day j)) (take i y))
before_in_front y j i d are less =
    All-filter (off_day j) (λ (e : Weight). ComesBefore e (get_or y i d)) (take i y) (front_pairs ComesBefore y i d are.ascends less)

pub front_weights : (y : List Weight) (j i : ℕ) → AreWeights y → i ≤ length y → AreWeights (without_day (Some (Day j)) (take i y))
front_weights y j i are within = record {
  ascends = AllPairs-filter ComesBefore (off_day j) (take i y) (take_pairs ComesBefore y i within are.ascends);
  small = All-filter (off_day j) IsWeight (take i y) (All-take IsWeight i y are.small);
}

pub kept_weight : (e : Weight) (j : ℕ) → e.day ≢ j → without_day (Some (Day j)) (e ∷ []) ≡ e ∷ []
kept_weight e j ne = ap (λ b. cond (not b) (e ∷ []) []) (ne_eqb e.day j ne)

-- what is kept of one item more
pub kept_more : {X : Type 0} → (p : X → Bool) (items kept new : List X) (i : ℕ) (d : X) → kept ≡ filter p (take i items) → new ≡ kept ++ filter p (get_or items i d ∷ []) → i < length items → new ≡ filter p (take (i + 1) items)
kept_more p items kept new i d so is less =
    is ∙ ap (λ ks. ks ++ filter p (get_or items i d ∷ [])) so ∙ sym (ap (filter p) (take_more items i d less) ∙ filter-append p (take i items) (get_or items i d ∷ []))

pub kept_all : {X : Type 0} → (p : X → Bool) (items list kept : List X) (i : ℕ) → kept ≡ filter p (take i items) → length items ≤ i → items ≡ list → kept ≡ filter p list
kept_all p items list kept i so all is = so ∙ ap (filter p) (take_all i items all ∙ is)
