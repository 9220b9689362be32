-- The first place where a fact holds, by chunks.
use Rattle.std.proofs.Common.{◌≡◌, ℕ, zero, suc, ◌+◌, ◌-◌, ◌*◌, ◌<◌, ◌≤◌, List, [], ◌∷◌, length, get_or, take, drop, ap, sym, ◌∙◌, subst, arith, Bool, false, Option, Some, None, min, length-drop, ⊎_elim, below_more, ◌/◌, ◌%◌}
use Rattle.std.specs.Prelude.{IfOk, IsTrue, ◌↔◌, Result, Ok, Err}
use Rattle.std.specs.declared.alloc.AllocError.{AllocError}
use Rattle.std.specs.Fork.{slice_chunk}
use Rattle.std.proofs.lemmas.List.{get_or-take, get_or-drop, get_or_default, length-take}
use Rattle.std.proofs.Math.Nat.{div-add-mod, mod-lt}
use Rattle.std.proofs.lemmas.Bool.{cases_lt}
use Rattle.rwsp_terms.specs.declared.data.Weight.{Weight}
use Rattle.clean_words.specs.First.{IsFirstHolding, IsFirstAt, first_answer}

abbrev Bounds : Type 0
Bounds = List (List Weight)

-- one place more where it doesn't hold
pub not_more : (H : List Weight → Type 0) (bounds : Bounds) (i : ℕ) (y : List Weight) (b : Bool) → ((k : ℕ) → k < i → H (get_or bounds k []) → ⊥) → i < length bounds → y ≡ get_or bounds i y → IsTrue b ↔ H y → b ≡ false → (k : ℕ) → k < i + 1 → H (get_or bounds k []) → ⊥
not_more H bounds i y b none lt read test fails = below_more (λ k. H (get_or bounds k []) → ⊥) i none last
  where
    last : H (get_or bounds i []) → ⊥
    last h =
        let e : y ≡ get_or bounds i [] = read ∙ get_or_default bounds i y [] lt in
        let t : IsTrue b = test.1 (subst H (sym e) h) in
        let P : Bool → Type 0 = IsTrue in
        absurd (never (subst P fails t))
      where
        never : IsTrue false → ⊥
        never h = cc

chunk_read : (bounds : Bounds) (size start i : ℕ) → i < size → get_or (take size (drop start bounds)) i [] ≡ get_or bounds (start + i) []
chunk_read bounds size start i lt = get_or-take size (drop start bounds) i [] lt ∙ get_or-drop start bounds i []

chunk_length : (bounds : Bounds) (size start : ℕ) → length (take size (drop start bounds)) ≡ min size (length bounds - start)
chunk_length bounds size start = length-take size (drop start bounds) ∙ ap (min size) (length-drop start bounds)

-- none in the chunk that begins at the start
none_in_chunk : (H : List Weight → Type 0) (bounds : Bounds) (size start : ℕ) → ((i : ℕ) → i < start → i < length bounds → H (get_or bounds i []) → ⊥) → IsFirstHolding H start (take size (drop start bounds)) None → (i : ℕ) → i < start + size → i < length bounds → H (get_or bounds i []) → ⊥
none_in_chunk H bounds size start none chunk i near lt h =
    ⊎_elim (λ (low : i < start). none i low lt h)
    (λ (high : start ≤ i).
    let there : start + (i - start) ≡ i = omega (arith, high) in
    let close : i - start < size = omega (arith, high, near) in
    let inside : i - start < length (take size (drop start bounds)) = omega (arith, chunk_length bounds size start, high, near, lt) in
    let e : get_or (take size (drop start bounds)) (i - start) [] ≡ get_or bounds i [] = chunk_read bounds size start (i - start) close ∙ ap (λ n. get_or bounds n []) there in
    chunk (i - start) inside (subst H (sym e) h))
    (cases_lt i start)

some_in_chunk : (H : List Weight → Type 0) (bounds : Bounds) (size start k : ℕ) → ((i : ℕ) → i < start → i < length bounds → H (get_or bounds i []) → ⊥) → IsFirstAt H start (take size (drop start bounds)) k → IsFirstAt H 0 bounds k
some_in_chunk H bounds size start k none first =
    let close : first.place < size = omega (arith, first.within, chunk_length bounds size start) in
    let inside : start + first.place < length bounds = omega (arith, first.within, chunk_length bounds size start) in
    record {
      place = start + first.place;
      counted = omega (arith, first.counted);
      within = inside;
      holds = subst H (chunk_read bounds size start first.place close) first.holds;
      before = λ i lt h.
          ⊎_elim (λ (low : i < start). none i low (omega (arith, lt, inside)) h)
          (λ (high : start ≤ i).
          let there : start + (i - start) ≡ i = omega (arith, high) in
          let near : i - start < size = omega (arith, high, lt, close) in
          let e : get_or (take size (drop start bounds)) (i - start) [] ≡ get_or bounds i [] = chunk_read bounds size start (i - start) near ∙ ap (λ n. get_or bounds n []) there in
          first.before (i - start) (omega (arith, high, lt)) (subst H (sym e) h))
          (cases_lt i start);
    }

-- the answers of the chunks from the m-th on
joined : (H : List Weight → Type 0) (bounds : Bounds) (size : ℕ) (rs : List (Result (Option ℕ) AllocError)) (m : ℕ) → ((n : ℕ) → n < length rs → IfOk (get_or rs n (Ok None)) (IsFirstHolding H ((m + n) * size) (slice_chunk bounds size (m + n)))) → ((i : ℕ) → i < m * size → i < length bounds → H (get_or bounds i []) → ⊥) → length bounds ≤ (m + length rs) * size → IfOk (first_answer rs) (IsFirstHolding H 0 bounds)
joined H bounds size [] m each none long = λ i lt h. none i (omega (arith, lt, long)) lt h
joined H bounds size (Ok None ∷ rs) m each none long =
    let P : ℕ → Type 0 = λ n. IsFirstHolding H (n * size) (slice_chunk bounds size n) None in
    let here : m + 0 ≡ m = omega arith in
    let first : IsFirstHolding H (m * size) (take size (drop (m * size) bounds)) None = subst P here (each 0 (omega arith)) in
    joined H bounds size rs (suc m)
    (λ n lt. let Q : ℕ → Type 0 = λ k. IfOk (get_or rs n (Ok None)) (IsFirstHolding H (k * size) (slice_chunk bounds size k)) in let next : m + suc n ≡ suc m + n = omega arith in subst Q next (each (suc n) (omega (arith, lt))))
    (λ i lt. none_in_chunk H bounds size (m * size) none first i (omega (arith, lt)))
    (omega (arith, long))
joined H bounds size (Ok (Some k) ∷ rs) m each none long =
    let P : ℕ → Type 0 = λ n. IsFirstHolding H (n * size) (slice_chunk bounds size n) (Some k) in
    let here : m + 0 ≡ m = omega arith in
    some_in_chunk H bounds size (m * size) k none (subst P here (each 0 (omega arith)))
joined H bounds size (Err e ∷ rs) m each none long = tt

enough_by : (q r size : ℕ) → r < size → size * q + r ≤ (q + min 1 r) * size
enough_by q zero size lt = omega arith
enough_by q (suc r) size lt =
    let one : min 1 (suc r) ≡ 1 = omega arith in
    let e : (q + min 1 (suc r)) * size ≡ (q + 1) * size = ap (λ n. (q + n) * size) one in
    omega (arith, lt, e)

enough : (len size count : ℕ) → 0 < size → count ≡ len / size + min 1 (len % size) → len ≤ count * size
enough len size count some is =
    let parts : size * (len / size) + len % size ≡ len = div-add-mod len size in
    let e : (len / size + min 1 (len % size)) * size ≡ count * size = ap (λ n. n * size) (sym is) in
    let h : size * (len / size) + len % size ≤ (len / size + min 1 (len % size)) * size = enough_by (len / size) (len % size) size (mod-lt len some) in
    omega (arith, parts, e, h)

-- what a worker answers of a chunk
pub record Answers (H : List Weight → Type 0) (bounds : Bounds) (size n : ℕ) (r : Result (Option ℕ) AllocError) : Type 0 where
  pub chunk : Bounds
  pub is : chunk ≡ slice_chunk bounds size n
  pub first : IfOk r (IsFirstHolding H (n * size) chunk)

pub joined_chunks : (H : List Weight → Type 0) (bounds all : Bounds) (size : ℕ) (rs : List (Result (Option ℕ) AllocError)) (r : Result (Option ℕ) AllocError) → 0 < size → length rs ≡ length bounds / size + min 1 (length bounds % size) → ((n : ℕ) → n < length rs → Answers H bounds size n (get_or rs n (Ok None))) → r ≡ first_answer rs → bounds ≡ all → IfOk r (IsFirstHolding H 0 all)
joined_chunks H bounds all size rs r some count each is same =
    let P : Result (Option ℕ) AllocError → Type 0 = λ a. IfOk a (IsFirstHolding H 0 all) in
    let Q : Bounds → Type 0 = λ b. IfOk (first_answer rs) (IsFirstHolding H 0 b) in
    subst P (sym is) (subst Q same (joined H bounds size rs 0 here (λ i lt. absurd (omega (arith, lt))) (omega (arith, enough (length bounds) size (length rs) some count))))
  where
    here : (n : ℕ) → n < length rs → IfOk (get_or rs n (Ok None)) (IsFirstHolding H ((0 + n) * size) (slice_chunk bounds size (0 + n)))
    here n lt =
        let a : Answers H bounds size n (get_or rs n (Ok None)) = each n lt in
        let R : Bounds → Type 0 = λ b. IfOk (get_or rs n (Ok None)) (IsFirstHolding H (n * size) b) in
        let S : ℕ → Type 0 = λ k. IfOk (get_or rs n (Ok None)) (IsFirstHolding H (k * size) (slice_chunk bounds size k)) in
        let zero_more : n ≡ 0 + n = omega arith in
        subst S zero_more (subst R a.is a.first)
