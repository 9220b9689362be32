-- Lists that grow by pieces.
use Rattle.std.proofs.Common.{◌≡◌, ℕ, ◌+◌, List, [], ◌∷◌, ◌++◌, ap, sym, ◌∙◌, Some}
use Rattle.std.specs.Prelude.{slice_get, take}
use Rattle.std.specs.List.{flat_map, range_with_len}
use Rattle.std.proofs.lemmas.List.{flat_map_more, take_more}
use Rattle.std.proofs.lemmas.Option.{slice_get_within, get_or_from_slice_get}
use Rattle.rwsp_terms.proofs.Counting.{range_more}

-- one piece more
pub piece_more : {X : Type 0} (f : ℕ → List X) (a n : ℕ) (old out new : List X) → out ≡ old ++ flat_map f (range_with_len a n) → new ≡ out ++ f (a + n) → new ≡ old ++ flat_map f (range_with_len a (n + 1))
piece_more f a n old out new before step =
    step
    ∙ ap (λ t. t ++ f (a + n)) before
    ∙ flat_map_more f old (range_with_len a n) (a + n)
    ∙ ap (λ ks. old ++ flat_map f ks) (sym (range_more a n))

-- one element more of a list
pub take_step : {X : Type 0} (xs : List X) (n : ℕ) (x : X) → slice_get xs n ≡ Some x → take (n + 1) xs ≡ take n xs ++ x ∷ []
take_step xs n x h =
    take_more xs n x (slice_get_within xs n x h)
    ∙ ap (λ y. take n xs ++ y ∷ []) (get_or_from_slice_get xs n x x h)

-- and the piece of that element
pub part_more : {X Y : Type 0} (f : X → List Y) (xs : List X) (n : ℕ) (x : X) (out new : List Y) → slice_get xs n ≡ Some x → out ≡ flat_map f (take n xs) → new ≡ out ++ f x → new ≡ flat_map f (take (n + 1) xs)
part_more f xs n x out new here before step =
    step
    ∙ ap (λ t. t ++ f x) before
    ∙ flat_map_more f [] (take n xs) x
    ∙ ap (flat_map f) (sym (take_step xs n x here))
