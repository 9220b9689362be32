-- Texts of the elements of a list, one behind another.
use Rattle.std.proofs.Common.{◌≡◌, ℕ, ◌+◌, ◌<◌, ◌≤◌, List, ◌++◌, length, get_or, take, ap, sym, ◌∙◌}
use Rattle.std.specs.List.{flat_map}
use Rattle.std.proofs.lemmas.List.{take_more, take_all, flat_map_more}

-- one element more
pub taken_more : {X : Type 0} (f : X → List ℕ) (xs : List X) (i : ℕ) (d : X) (old out new : List ℕ) → i < length xs → out ≡ old ++ flat_map f (take i xs) → new ≡ out ++ f (get_or xs i d) → new ≡ old ++ flat_map f (take (i + 1) xs)
taken_more f xs i d old out new less before step =
    step
    ∙ ap (λ t. t ++ f (get_or xs i d)) before
    ∙ flat_map_more f old (take i xs) (get_or xs i d)
    ∙ ap (λ ys. old ++ flat_map f ys) (sym (take_more xs i d less))

-- all elements
pub taken_all : {X : Type 0} (f : X → List ℕ) (xs : List X) (i : ℕ) (old out : List ℕ) → length xs ≤ i → out ≡ old ++ flat_map f (take i xs) → out ≡ old ++ flat_map f xs
taken_all f xs i old out all before = before ∙ ap (λ ys. old ++ flat_map f ys) (take_all i xs all)
