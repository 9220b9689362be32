-- A list whose elements are replaced one by one.
use Rattle.std.proofs.Common.{◌≡◌, ℕ, suc, ◌+◌, ◌-◌, ◌<◌, ◌≤◌, List, [], ◌∷◌, ◌++◌, length, take, drop, map, set, get_or, ap, sym, ◌∙◌, arith, append_assoc, add-one}
use Rattle.std.proofs.Math.Seq.{drop-cons, set-append_seam}
use Rattle.std.proofs.lemmas.List.{take_more, length-take-le, map-append, get_or-append_right, length-map}

-- the first i elements are replaced
abbrev pub replaced : {X : Type 0} → (X → X) → List X → ℕ → List X
replaced f xs i = map f (take i xs) ++ drop i xs

long_front : {X : Type 0} (f : X → X) (xs : List X) (i : ℕ) → i ≤ length xs → length (map f (take i xs)) ≡ i
long_front f xs i within = length-map (take i xs) f ∙ length-take-le i xs within

-- the element that is next is as it was
pub next_same : {X : Type 0} (f : X → X) (xs : List X) (i : ℕ) (d : X) → i < length xs → get_or (replaced f xs i) i d ≡ get_or xs i d
next_same f xs i d less =
    get_or-append_right (map f (take i xs)) (drop i xs) i i d (long_front f xs i (omega (arith, less))) (omega arith)
    ∙ ap (λ k. get_or (drop i xs) k d) (let z : i - i ≡ 0 = omega arith in z)
    ∙ ap (λ l. get_or l 0 d) (drop-cons xs i d less)

pub replaced_more : {X : Type 0} (f : X → X) (xs : List X) (i : ℕ) (d : X) → i < length xs → set (replaced f xs i) i (f (get_or xs i d)) ≡ replaced f xs (i + 1)
replaced_more f xs i d less =
    let front = map f (take i xs) in
    let x = get_or xs i d in
    let long = long_front f xs i (omega (arith, less)) in
    ap (λ l. set (front ++ l) i (f x)) (drop-cons xs i d less)
    ∙ ap (λ k. set (front ++ x ∷ drop (suc i) xs) k (f x)) (sym long)
    ∙ set-append_seam front x (drop (suc i) xs) (f x)
    ∙ sym (append_assoc front (f x ∷ []) (drop (suc i) xs))
    ∙ ap (λ l. l ++ drop (suc i) xs) (sym (ap (map f) (take_more xs i d less) ∙ map-append f (take i xs) (x ∷ [])))
    ∙ ap (λ k. map f (take (i + 1) xs) ++ drop k xs) (sym (add-one i))

-- one element more, as a loop writes it
pub replaced_step : {X : Type 0} (f : X → X) (xs old : List X) (i : ℕ) (d y : X) → i < length xs → old ≡ replaced f xs i → y ≡ f (get_or old i d) → set old i y ≡ replaced f xs (i + 1)
replaced_step f xs old i d y less before is =
    let here : get_or old i d ≡ get_or xs i d = ap (λ l. get_or l i d) before ∙ next_same f xs i d less in
    ap (λ l. set l i y) before
    ∙ ap (λ z. set (replaced f xs i) i z) (is ∙ ap f here)
    ∙ replaced_more f xs i d less
