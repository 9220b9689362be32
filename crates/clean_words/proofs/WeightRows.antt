-- Tables of weights, entry by entry.
use Rattle.std.proofs.Common.{◌≡◌, ◌⊎◌, ℕ, ◌+◌, ◌*◌, ◌/◌, ◌%◌, ◌<◌, List, [], ◌∷◌, ◌++◌, get_or, ap, sym, ◌∙◌, inl, inr, arith, length-append, pos, ℤ}
use Rattle.std.proofs.Math.Nat.{eq-or-lt_of_le}
use Rattle.std.proofs.lemmas.List.{get_or_append_left, get_or_default, get_or_push}
use Rattle.rwsp_terms.specs.declared.data.Weight.{Weight}
use Rattle.rwsp_terms.specs.Weights.{weight_at}
use Rattle.clean_words.specs.WeightTables.{HoldsWeights}

pub holds_more : (y : List Weight) (table : List ℤ) (count : ℕ) (v : ℤ) → HoldsWeights y table count → v ≡ weight_at y (count / 9 + 1) (count % 9) → HoldsWeights y (table ++ v ∷ []) (count + 1)
holds_more y table count v h is = (omega (arith, h.0, length-append table (v ∷ [])), λ k lt. by_place k (eq-or-lt_of_le {n = k} {m = count} (omega (arith, lt))))
  where
    by_place : (k : ℕ) → (k ≡ count) ⊎ (k < count) → get_or (table ++ v ∷ []) k (pos 0) ≡ weight_at y (k / 9 + 1) (k % 9)
    by_place k (inl last) = get_or_push table v (pos 0) k (h.0 ∙ sym last) ∙ is ∙ ap (λ (n : ℕ). weight_at y (n / 9 + 1) (n % 9)) (sym last)
    by_place k (inr less) = get_or_append_left table (v ∷ []) (pos 0) k (omega (arith, less, h.0)) ∙ h.1 k less

pub read_weight : (y : List Weight) (table : List ℤ) (days behind number place : ℕ) (d : ℤ) → HoldsWeights y table (days * 9) → behind < days → number < 9 → place ≡ behind * 9 + number → get_or table place d ≡ weight_at y (behind + 1) number
read_weight y table days behind number place d h day known is =
    let inside : place < days * 9 = omega (arith, day, known, is) in
    let by_day : place / 9 ≡ behind = omega (arith, known, is) in
    let by_number : place % 9 ≡ number = omega (arith, known, is) in
    get_or_default table place d (pos 0) (omega (arith, inside, h.0)) ∙ h.1 place inside ∙ ap (λ (n : ℕ). weight_at y (n + 1) (place % 9)) by_day ∙ ap (λ (n : ℕ). weight_at y (behind + 1) n) by_number
