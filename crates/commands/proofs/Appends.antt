-- Texts put together.
use Rattle.std.proofs.Common.{◌≡◌, ℕ, ◌+◌, ◌<◌, ◌≤◌, List, [], ◌∷◌, ◌++◌, length, take, get_or, append_assoc, ap, ◌∙◌}
use Rattle.std.proofs.lemmas.List.{take_all}
use Rattle.std.specs.List.{flat_map}
use Rattle.std.specs.Fmt.{decimal}
use Rattle.refutation_log.proofs.PrintedTexts.{pieces_more as one_more}

-- one number more

numbers_more : (old out xs : List ℕ) (i d : ℕ) → i < length xs → out ≡ old ++ flat_map (λ k. 32 ∷ decimal k) (take i xs) → out ++ (32 ∷ decimal (get_or xs i d)) ≡ old ++ flat_map (λ k. 32 ∷ decimal k) (take (i + 1) xs)
numbers_more old out xs i d less e = ap (λ t. t ++ (32 ∷ decimal (get_or xs i d))) e ∙ one_more (λ k. 32 ∷ decimal k) old xs i d less

pub number_put : (new old out blank xs : List ℕ) (i d : ℕ) → blank ≡ 32 ∷ [] → new ≡ (out ++ blank) ++ decimal (get_or xs i d) → i < length xs → out ≡ old ++ flat_map (λ k. 32 ∷ decimal k) (take i xs) → new ≡ old ++ flat_map (λ k. 32 ∷ decimal k) (take (i + 1) xs)
number_put new old out blank xs i d is put less e =
    let joined : (out ++ (32 ∷ [])) ++ decimal (get_or xs i d) ≡ out ++ (32 ∷ decimal (get_or xs i d)) = simp append_assoc in
    put ∙ ap (λ b. (out ++ b) ++ decimal (get_or xs i d)) is ∙ joined ∙ numbers_more old out xs i d less e

pub numbers_done : (old out xs : List ℕ) (i : ℕ) → length xs ≤ i → out ≡ old ++ flat_map (λ k. 32 ∷ decimal k) (take i xs) → out ≡ old ++ flat_map (λ k. 32 ∷ decimal k) xs
numbers_done old out xs i less e = e ∙ ap (λ t. old ++ flat_map (λ k. 32 ∷ decimal k) t) (take_all i xs less)
