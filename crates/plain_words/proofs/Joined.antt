-- Pieces of a text, one behind another.
use Rattle.std.proofs.Common.{◌≡◌, ℕ, zero, suc, ◌+◌, ◌<◌, List, [], ◌∷◌, ◌++◌, map, ap, sym, ◌∙◌, arith, append_assoc, refl, Bool, true, false, cond}
use Rattle.std.specs.Prelude.{Some, None}
use Rattle.std.specs.List.{flat_map, range_with_len, find, sum_by}
use Rattle.std.proofs.lemmas.List.{append-nil, flat_map_more}
use Rattle.std.proofs.lemmas.List.FromFn.{map-range_with_len_more}
use Rattle.std.proofs.lemmas.List.Sums.{sum_by-append, sum_by-cons}
use Rattle.std.proofs.lemmas.Grind.{flat_map-append}
use Rattle.rwsp_terms.proofs.Counting.{range_more}

-- one piece more
pub piece_more : {X : Type 0} (f : ℕ → List X) (a n at : ℕ) (old out new : List X) → at ≡ a + n → out ≡ old ++ flat_map f (range_with_len a n) → new ≡ out ++ f at → new ≡ old ++ flat_map f (range_with_len a (n + 1))
piece_more f a n at old out new here before step =
    step
    ∙ ap (λ t. t ++ f at) before
    ∙ ap (λ k. (old ++ flat_map f (range_with_len a n)) ++ f k) here
    ∙ flat_map_more f old (range_with_len a n) (a + n)
    ∙ ap (λ ks. old ++ flat_map f ks) (sym (range_more a n))

-- the pieces of one list behind those of another
pub behind : {X : Type 0} (f : X → List ℕ) (xs ys : List X) (old mid new : List ℕ) → mid ≡ old ++ flat_map f xs → new ≡ mid ++ flat_map f ys → new ≡ old ++ flat_map f (xs ++ ys)
behind f xs ys old mid new first second =
    second
    ∙ ap (λ t. t ++ flat_map f ys) first
    ∙ append_assoc old (flat_map f xs) (flat_map f ys)
    ∙ ap (λ t. old ++ t) (sym (flat_map-append f xs ys))

-- one piece
pub one_of : {X : Type 0} (f : X → List ℕ) (x : X) (old new : List ℕ) → new ≡ old ++ f x → new ≡ old ++ flat_map f (x ∷ [])
one_of f x old new step = step ∙ ap (λ t. old ++ t) (sym (append-nil (f x)))

pub two_of : {X : Type 0} (f : X → List ℕ) (x y : X) (old mid new : List ℕ) → mid ≡ old ++ f x → new ≡ mid ++ f y → new ≡ old ++ flat_map f (x ∷ y ∷ [])
two_of f x y old mid new first second = behind f (x ∷ []) (y ∷ []) old mid new (one_of f x old mid first) (one_of f y mid new second)

-- the pieces of several lists
pub three_of : {X : Type 0} (f : X → List ℕ) (a b c : List X) (old o1 o2 new : List ℕ) → o1 ≡ old ++ flat_map f a → o2 ≡ o1 ++ flat_map f b → new ≡ o2 ++ flat_map f c → new ≡ old ++ flat_map f (a ++ b ++ c)
three_of f a b c old o1 o2 new h1 h2 h3 = behind f (a ++ b) c old o2 new (behind f a b old o1 o2 h1 h2) h3

pub five_of : {X : Type 0} (f : X → List ℕ) (a b c d e : List X) (old o1 o2 o3 o4 new : List ℕ) → o1 ≡ old ++ flat_map f a → o2 ≡ o1 ++ flat_map f b → o3 ≡ o2 ++ flat_map f c → o4 ≡ o3 ++ flat_map f d → new ≡ o4 ++ flat_map f e → new ≡ old ++ flat_map f (a ++ b ++ c ++ d ++ e)
five_of f a b c d e old o1 o2 o3 o4 new h1 h2 h3 h4 h5 = three_of f (a ++ b ++ c) d e old o3 o4 new (three_of f a b c old o1 o2 o3 h1 h2 h3) h4 h5

-- the pieces of one list more
pub list_more : {X : Type 0} (f : X → List ℕ) (g : ℕ → List X) (a n at : ℕ) (old out new : List ℕ) → at ≡ a + n → out ≡ old ++ flat_map f (flat_map g (range_with_len a n)) → new ≡ out ++ flat_map f (g at) → new ≡ old ++ flat_map f (flat_map g (range_with_len a (n + 1)))
list_more f g a n at old out new here before step =
    behind f (flat_map g (range_with_len a n)) (g at) old out new before step
    ∙ ap (λ xs. old ++ flat_map f xs) (ap (λ k. flat_map g (range_with_len a n) ++ g k) here ∙ flat_map_more g [] (range_with_len a n) (a + n) ∙ ap (flat_map g) (sym (range_more a n)))

-- a sum with one number more
pub sum_more : (f : ℕ → ℕ) (a n at sum new one : ℕ) → at ≡ a + n → sum ≡ sum_by f (range_with_len a n) → one ≡ f at → new ≡ sum + one → new ≡ sum_by f (range_with_len a (n + 1))
sum_more f a n at sum new one here before is step =
    let last : sum_by f (range_with_len a (n + 1)) ≡ sum_by f (range_with_len a n) + sum_by f ((a + n) ∷ []) = ap (sum_by f) (range_more a n) ∙ sum_by-append f (range_with_len a n) ((a + n) ∷ []) in
    let single : sum_by f ((a + n) ∷ []) ≡ f (a + n) = sum_by-cons f (a + n) [] ∙ omega arith in
    let same : one ≡ f (a + n) = is ∙ ap f here in
    omega (arith, last, single, same, before, step)

-- one number that passes a test, or doesn't, in front of others
found_here : (p : ℕ → Bool) (x : ℕ) (xs : List ℕ) → p x ≡ true → find p (x ∷ xs) ≡ Some x
found_here p x xs is = ap (λ b. cond b (Some x) (find p xs)) is

found_later : (p : ℕ → Bool) (x : ℕ) (xs : List ℕ) → p x ≡ false → find p (x ∷ xs) ≡ find p xs
found_later p x xs is = ap (λ b. cond b (Some x) (find p xs)) is

-- the first number that passes a test, behind others that don't
found_at : (p : ℕ → Bool) (a n k : ℕ) → k < n → ((i : ℕ) → i < k → p (a + i) ≡ false) → p (a + k) ≡ true → find p (range_with_len a n) ≡ Some (a + k)
found_at p a zero k within none here = absurd (omega (arith, within))
found_at p a (suc n) zero within none here =
    let e : a + 0 ≡ a = omega arith in
    found_here p a (range_with_len (a + 1) n) (sym (ap p e) ∙ here) ∙ ap (λ k. Some k) (sym e)
found_at p a (suc n) (suc k) within none here =
    let e : a + 0 ≡ a = omega arith in
    let f : a + 1 + k ≡ a + suc k = omega arith in
    found_later p a (range_with_len (a + 1) n) (sym (ap p e) ∙ none 0 (omega arith))
    ∙ found_at p (a + 1) n k (omega (arith, within)) (λ i less. let g : a + 1 + i ≡ a + suc i = omega arith in ap p g ∙ none (suc i) (omega (arith, less))) (ap p f ∙ here)
    ∙ ap (λ j. Some j) f

pub first_found : (p : ℕ → Bool) (a n k at : ℕ) (passes : Bool) → at ≡ a + k → k < n → ((i : ℕ) → i < k → p (a + i) ≡ false) → passes ≡ p at → passes ≡ true → Some at ≡ find p (range_with_len a n)
first_found p a n k at passes here within none is passing = ap (λ j. Some j) here ∙ sym (found_at p a n k within none (ap p (sym here) ∙ sym is ∙ passing))

-- no number passes a test
pub none_found : (p : ℕ → Bool) (a n : ℕ) → ((i : ℕ) → i < n → p (a + i) ≡ false) → find p (range_with_len a n) ≡ None
none_found p a zero none = refl
none_found p a (suc n) none =
    let e : a + 0 ≡ a = omega arith in
    found_later p a (range_with_len (a + 1) n) (sym (ap p e) ∙ none 0 (omega arith))
    ∙ none_found p (a + 1) n (λ i less. let g : a + 1 + i ≡ a + suc i = omega arith in ap p g ∙ none (suc i) (omega (arith, less)))

-- one number more, which another list names
pub named_more : {Y : Type 0} (h : Y → List ℕ) (v : ℕ → Y) (a n at : ℕ) (old out new : List ℕ) → a + n ≡ at → out ≡ old ++ flat_map h (map v (range_with_len a n)) → new ≡ out ++ h (v at) → new ≡ old ++ flat_map h (map v (range_with_len a (n + 1)))
named_more h v a n at old out new here before step =
    step
    ∙ ap (λ t. t ++ h (v at)) before
    ∙ flat_map_more h old (map v (range_with_len a n)) (v at)
    ∙ ap (λ ys. old ++ flat_map h ys) (sym (map-range_with_len_more v a n at here))
