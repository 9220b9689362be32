-- Pieces of a list, one behind another.
use Rattle.std.proofs.Common.{◌≡◌, ℕ, zero, suc, ◌+◌, ◌*◌, ◌<◌, ◌≤◌, List, [], ◌∷◌, ◌++◌, length, ap, sym, subst, ◌∙◌, arith, length-append, inl, inr}
use Rattle.std.specs.Prelude.{Contains}
use Rattle.std.specs.List.{flat_map, range_with_len}
use Rattle.std.proofs.lemmas.List.{flat_map_more}
use Rattle.std.proofs.lemmas.List.Elements.{Contains-append_left, Contains-append_right, Contains-append_cases}
use Rattle.rwsp_terms.proofs.Counting.{range_more}

-- one piece more
pub piece_more : {X : Type 0} (f : ℕ → List X) (n : ℕ) (old out new : List X) → out ≡ old ++ flat_map f (range_with_len 0 n) → new ≡ out ++ f n → new ≡ old ++ flat_map f (range_with_len 0 (n + 1))
piece_more f n old out new before step =
    let e : 0 + n ≡ n = omega arith in
    step
    ∙ ap (λ t. t ++ f n) before
    ∙ flat_map_more f old (range_with_len 0 n) n
    ∙ ap (λ ks. old ++ flat_map f ks) (sym (range_more 0 n ∙ ap (λ k. range_with_len 0 n ++ k ∷ []) e))

-- what is in a piece is in the whole
pub in_whole : {X : Type 0} (f : ℕ → List X) (a n i : ℕ) (x : X) → i < n → Contains (f (a + i)) x → Contains (flat_map f (range_with_len a n)) x
in_whole f a zero i x less h = absurd (omega (arith, less))
in_whole f a (suc n) zero x less h =
    let e : a + zero ≡ a = omega arith in
    Contains-append_left (f a) (flat_map f (range_with_len (a + 1) n)) x (subst (λ k. Contains (f k) x) e h)
in_whole f a (suc n) (suc i) x less h =
    let e : a + suc i ≡ a + 1 + i = omega arith in
    Contains-append_right (f a) (flat_map f (range_with_len (a + 1) n)) x (in_whole f (a + 1) n i x (omega (arith, less)) (subst (λ k. Contains (f k) x) e h))

-- a piece that has something
pub record InPiece {X : Type 0} (f : ℕ → List X) (a n : ℕ) (x : X) : Type 0 where
  pub place : ℕ
  pub within : place < n
  pub there : Contains (f (a + place)) x

-- what is in the whole is in a piece
pub in_piece : {X : Type 0} (f : ℕ → List X) (a n : ℕ) (x : X) → Contains (flat_map f (range_with_len a n)) x → InPiece f a n x
in_piece f a zero x h = absurd (omega (arith, h.1))
in_piece f a (suc n) x h =
    let e : a ≡ a + 0 = omega arith in
    elim (Contains-append_cases (f a) (flat_map f (range_with_len (a + 1) n)) x h) [
      | inl here ↦ record { place = 0; within = omega arith; there = subst (λ k. Contains (f k) x) e here }
      | inr later ↦
          let found = in_piece f (a + 1) n x later in
          let next : a + 1 + found.place ≡ a + suc found.place = omega arith in
          let less = found.within in
          record { place = suc found.place; within = omega (arith, less); there = subst (λ k. Contains (f k) x) next found.there }
    ]

-- pieces of few each are few
pub few_pieces : {X : Type 0} (f : ℕ → List X) (m a n : ℕ) → ((i : ℕ) → length (f i) ≤ m) → length (flat_map f (range_with_len a n)) ≤ m * n
few_pieces f m a zero each = omega arith
few_pieces f m a (suc n) each =
    let here = each a in
    let more = few_pieces f m (a + 1) n each in
    omega (arith, here, more, length-append (f a) (flat_map f (range_with_len (a + 1) n)))
