-- Lists that are related place by place.
use Rattle.std.proofs.Common.{◌≡◌, ℕ, zero, suc, ◌+◌, ◌<◌, ◌≤◌, List, [], ◌∷◌, ◌++◌, length, get_or, refl, ap, sym, subst, ◌∙◌, arith, ⊎_elim, length-append}
use Rattle.std.specs.List.{AllZip}
use Rattle.std.proofs.lemmas.Bool.{cases_lt}
use Rattle.std.proofs.lemmas.List.{get_or_append_left}

-- two lists that are related place by place
pub zip_from : {A B : Type 0} (R : A → B → Type 0) (xs : List A) (ys : List B) → length xs ≡ length ys → ((i : ℕ) (c : A) (d : B) → i < length xs → R (get_or xs i c) (get_or ys i d)) → AllZip R xs ys
zip_from R [] [] long each = tt
zip_from R [] (y ∷ ys) long each = absurd (omega (arith, long))
zip_from R (x ∷ xs) [] long each = absurd (omega (arith, long))
zip_from R (x ∷ xs) (y ∷ ys) long each =
    (each 0 x y (omega arith), zip_from R xs ys (omega (arith, long)) (λ i c d less. each (suc i) c d (omega (arith, less))))

pub zip_long : {A B : Type 0} (R : A → B → Type 0) (xs : List A) (ys : List B) → AllZip R xs ys → length ys ≡ length xs
zip_long R [] [] h = refl
zip_long R [] (y ∷ ys) h = absurd h
zip_long R (x ∷ xs) [] h = absurd h
zip_long R (x ∷ xs) (y ∷ ys) h = ap suc (zip_long R xs ys h.1)

pub zip_at : {A B : Type 0} (R : A → B → Type 0) (xs : List A) (ys : List B) (i : ℕ) (c : A) (d : B) → AllZip R xs ys → i < length xs → R (get_or xs i c) (get_or ys i d)
zip_at R [] ys i c d h less = absurd (omega (arith, less))
zip_at R (x ∷ xs) [] i c d h less = absurd h
zip_at R (x ∷ xs) (y ∷ ys) zero c d h less = h.0
zip_at R (x ∷ xs) (y ∷ ys) (suc i) c d h less = zip_at R xs ys i c d h.1 (omega (arith, less))

pub zip_weaker : {A B : Type 0} (R Q : A → B → Type 0) (xs : List A) (ys : List B) → ((x : A) (y : B) → R x y → Q x y) → AllZip R xs ys → AllZip Q xs ys
zip_weaker R Q [] [] weaker h = tt
zip_weaker R Q [] (y ∷ ys) weaker h = absurd h
zip_weaker R Q (x ∷ xs) [] weaker h = absurd h
zip_weaker R Q (x ∷ xs) (y ∷ ys) weaker h = (weaker x y h.0, zip_weaker R Q xs ys weaker h.1)

-- what each element has, with one more
get_push_here : {B : Type 0} (ys : List B) (y d : B) → get_or (ys ++ y ∷ []) (length ys) d ≡ y
get_push_here [] y d = refl
get_push_here (z ∷ ys) y d = get_push_here ys y d

pub each_push : {B : Type 0} (Q : ℕ → B → Type 0) (ys zs : List B) (y : B) → zs ≡ ys ++ y ∷ [] → ((i : ℕ) (d : B) → i < length ys → Q i (get_or ys i d)) → Q (length ys) y → (i : ℕ) (d : B) → i < length zs → Q i (get_or zs i d)
each_push Q ys zs y is before here i d less =
    let long : length zs ≡ length ys + 1 = ap length is ∙ length-append ys (y ∷ []) in
    subst (λ zs. Q i (get_or zs i d)) (sym is)
    (⊎_elim
    (λ (lt : i < length ys). subst (Q i) (sym (get_or_append_left ys (y ∷ []) d i lt)) (before i d lt))
    (λ (le : length ys ≤ i).
    let there : length ys ≡ i = omega (arith, le, less, long) in
    subst (λ (k : ℕ). Q k (get_or (ys ++ y ∷ []) k d)) there (subst (Q (length ys)) (sym (get_push_here ys y d)) here))
    (cases_lt i (length ys)))
