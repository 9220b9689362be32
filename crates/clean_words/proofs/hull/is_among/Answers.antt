use Rattle.std.proofs.Common.{ℕ, ◌<◌, ◌≡◌, List, length, slice_index_or, below_more, refl}
use Rattle.std.proofs.lemmas.List.{get_or_default}
use Rattle.clean_words.proofs.hull.is_among.Goals as goal

-- an element that equals another is that other, also as the default
same_at : {X : Type 0} (xs : List X) (i : ℕ) (x y : X) → x ≡ slice_index_or xs i x → i < length xs → x ≡ y → slice_index_or xs i y ≡ y
same_at xs i x y is within same = let e : slice_index_or xs i x ≡ slice_index_or xs i y = get_or_default xs i x y within in cc

-- and the other way round
same_from : {X : Type 0} (xs : List X) (i : ℕ) (x y : X) → x ≡ slice_index_or xs i x → i < length xs → slice_index_or xs i y ≡ y → x ≡ y
same_from xs i x y is within same = let e : slice_index_or xs i x ≡ slice_index_or xs i y = get_or_default xs i x y within in cc

pub returns-then-are_same : goal.returns-then-are_same
returns-then-are_same c =
    let same = rw c.if-are_same.true at c.are_same.ensures.0 in
    let equal : c.v-item.result ≡ c.args.vector.now = rw (← c.entries.ensures) (same refl) in
    ((λ _. (c.loop-v.v-index, c.loop-v-test.true, same_at _ _ _ _ c.v-item.is c.loop-v-test.true equal)), (λ _. refl))

pub loop-v-preserved : goal.loop-v-preserved
loop-v-preserved c =
    let differ = rw c.if-are_same.false at c.are_same.ensures.1 in
    below_more _ _ c.loop-v.invariant (λ h. cc (differ (rw c.entries.ensures (same_from _ _ _ _ c.v-item.is c.loop-v-test.true h))))
