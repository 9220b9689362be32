-- Lists that grow by a piece for each element of another.
use Rattle.std.proofs.Common.{◌≡◌, ℕ, ◌+◌, ◌<◌, ◌≤◌, List, ◌++◌, length, get_or, take, map, [], ◌∷◌, refl, ap, sym, ◌∙◌}
use Rattle.std.specs.List.{flat_map}
use Rattle.std.proofs.lemmas.List.{take_more, take_all, flat_map_more, map_push}

-- one element more
pub taken_more : {X Y : Type 0} (f : X → List Y) (xs : List X) (i : ℕ) (d : X) (old out new : List Y) → i < length xs → out ≡ old ++ flat_map f (take i xs) → new ≡ out ++ f (get_or xs i d) → new ≡ old ++ flat_map f (take (i + 1) xs)
taken_more f xs i d old out new less before step =
    step
    ∙ ap (λ t. t ++ f (get_or xs i d)) before
    ∙ flat_map_more f old (take i xs) (get_or xs i d)
    ∙ ap (λ ys. old ++ flat_map f ys) (sym (take_more xs i d less))

-- all elements
pub taken_all : {X Y : Type 0} (f : X → List Y) (xs : List X) (i : ℕ) (old out : List Y) → length xs ≤ i → out ≡ old ++ flat_map f (take i xs) → out ≡ old ++ flat_map f xs
taken_all f xs i old out all before = before ∙ ap (λ ys. old ++ flat_map f ys) (take_all i xs all)

-- the same where each piece is one element

pub mapped_more : {X Y : Type 0} (f : X → Y) (xs : List X) (i : ℕ) (d : X) (out new : List Y) → i < length xs → out ≡ map f (take i xs) → new ≡ out ++ f (get_or xs i d) ∷ [] → new ≡ map f (take (i + 1) xs)
mapped_more f xs i d out new less before step =
    step
    ∙ ap (λ t. t ++ f (get_or xs i d) ∷ []) before
    ∙ sym (map_push f (take i xs) (get_or xs i d))
    ∙ ap (map f) (sym (take_more xs i d less))

pub mapped_all : {X Y : Type 0} (f : X → Y) (xs : List X) (i : ℕ) (out : List Y) → length xs ≤ i → out ≡ map f (take i xs) → out ≡ map f xs
mapped_all f xs i out all before = before ∙ ap (map f) (take_all i xs all)

-- the images of images
pub mapped_twice : {X Y Z : Type 0} (f : X → Y) (g : Y → Z) (xs : List X) → map g (map f xs) ≡ map (λ x. g (f x)) xs
mapped_twice f g [] = refl
mapped_twice f g (x ∷ xs) = ap (λ ys. g (f x) ∷ ys) (mapped_twice f g xs)
