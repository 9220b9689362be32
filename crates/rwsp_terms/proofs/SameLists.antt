-- Lists in order are told apart by what they hold.
use Rattle.std.proofs.Common.{◌≡◌, ◌≢◌, ℕ, suc, ◌<◌, ◌≤◌, List, [], ◌∷◌, Bool, true, false, refl, ap, sym, ◌∙◌, subst, arith, inl, inr, ⊎_elim}
use Rattle.std.specs.Prelude.{All, AllPairs, Contains, ℤ, pos, ◌↔◌}
use Rattle.std.specs.List.Sorted.{IsStrictlyIncreasing}
use Rattle.std.proofs.lemmas.Bool.{cases_lt, cases_eq}
use Rattle.std.proofs.lemmas.List.Elements.{All-contains, All-weaker, All-cons, All-head, All-tail}
use Rattle.std.proofs.lemmas.List.Kept.{AllPairs-from_increasing}
use Rattle.rwsp_terms.specs.Weights.{ComesBefore, IsWeight, AreWeights, weight_at}
use Rattle.rwsp_terms.specs.Places.{is_at, Follows}
use Rattle.rwsp_terms.specs.declared.data.Weight.{Weight}
use Rattle.rwsp_terms.proofs.Ascending.{Contains-cons, Contains-later, Contains-first, off_after, weight_none, weight_past, weight_first, test_from_here, here_from_test}

pairs_head : {X : Type 0} (R : X → X → Type 0) (x : X) (xs : List X) → AllPairs R (x ∷ xs) → All (R x) xs
pairs_head R x xs h = λ k d less. h 0 (suc k) d (omega arith) (omega (arith, less))

pairs_tail : {X : Type 0} (R : X → X → Type 0) (x : X) (xs : List X) → AllPairs R (x ∷ xs) → AllPairs R xs
pairs_tail R x xs h = λ i j d lt less. h (suc i) (suc j) d (omega (arith, lt)) (omega (arith, less))

abbrev pub HoldSame : List ℕ → List ℕ → Type 0
HoldSame r s = (k : ℕ) → Contains r k ↔ Contains s k

-- the head of one is no less than that of the other
head_within : (a b : ℕ) (s : List ℕ) → AllPairs (λ x y. x < y) (b ∷ s) → Contains (b ∷ s) a → b ≤ a
head_within a b s up c =
    ⊎_elim
    (λ (later : Contains s a). let lt = All-contains (λ y. b < y) s a (pairs_head (λ x y. x < y) b s up) later in omega (arith, lt))
    (λ (same : a ≡ b). omega (arith, same))
    (Contains-cons b s a c)

tail_within : (a : ℕ) (r s : List ℕ) → AllPairs (λ x y. x < y) (a ∷ r) → (k : ℕ) → Contains r k → Contains (a ∷ s) k → Contains s k
tail_within a r s up k c d =
    ⊎_elim (λ (later : Contains s k). later)
    (λ (same : k ≡ a). let lt : a < k = All-contains (λ y. a < y) r k (pairs_head (λ x y. x < y) a r up) c in absurd (omega (arith, lt, same)))
    (Contains-cons a s k d)

same_numbers : (r s : List ℕ) → AllPairs (λ x y. x < y) r → AllPairs (λ x y. x < y) s → HoldSame r s → r ≡ s
same_numbers [] [] p q h = refl
same_numbers [] (b ∷ s) p q h = let c = (h b).1 (Contains-first b s b refl) in absurd (omega (arith, c.1))
same_numbers (a ∷ r) [] p q h = let c = (h a).0 (Contains-first a r a refl) in absurd (omega (arith, c.1))
same_numbers (a ∷ r) (b ∷ s) p q h =
    let below : b ≤ a = head_within a b s q ((h a).0 (Contains-first a r a refl)) in
    let above : a ≤ b = head_within b a r p ((h b).1 (Contains-first b s b refl)) in
    let same : b ≡ a = omega arith in
    let q' : AllPairs (λ x y. x < y) (a ∷ s) = subst (λ n. AllPairs (λ x y. x < y) (n ∷ s)) same q in
    let h' : HoldSame (a ∷ r) (a ∷ s) = subst (λ n. HoldSame (a ∷ r) (n ∷ s)) same h in
    let rest : r ≡ s = same_numbers r s (pairs_tail (λ x y. x < y) a r p) (pairs_tail (λ x y. x < y) a s q')
    (λ k. (λ c. tail_within a r s p k c ((h' k).0 (Contains-later a r k c)), λ c. tail_within a s r q' k c ((h' k).1 (Contains-later a s k c)))) in
    ap (λ l. a ∷ l) rest ∙ ap (λ n. n ∷ s) (sym same)

pub same_rule_lists : (r s : List ℕ) → IsStrictlyIncreasing r → IsStrictlyIncreasing s → HoldSame r s → r ≡ s
same_rule_lists r s p q h = same_numbers r s (AllPairs-from_increasing r p) (AllPairs-from_increasing s q) h

-- weights

abbrev pub WeighSame : List Weight → List Weight → Type 0
WeighSame y z = (j x : ℕ) → weight_at y j x ≡ weight_at z j x

follows : (a e : Weight) → ComesBefore a e → Follows e a.day a.symbol.number
follows a e h = ⊎_elim (λ (l : a.day < e.day). inl l) (λ (l : (a.day ≡ e.day) × (a.symbol.number < e.symbol.number)). inr (sym l.0, l.1)) h

-- all entries come after another, and then weigh nothing for it
off_behind : (a : Weight) (z : List Weight) → All (ComesBefore a) z → weight_at z a.day a.symbol.number ≡ pos 0
off_behind a z h = weight_none z a.day a.symbol.number (All-weaker (ComesBefore a) (λ (e : Weight). is_at e a.day a.symbol.number ≡ false) (λ e before. off_after e a.day a.symbol.number (follows a e before)) z h)

pub before_all : (a b e : Weight) → ComesBefore a b → ComesBefore b e → ComesBefore a e
before_all a b e p q = grind arith

-- the first entry of one isn't before that of the other
not_earlier : (a b : Weight) (y z : List Weight) → IsWeight a → All (ComesBefore b) z → WeighSame (a ∷ y) (b ∷ z) → ComesBefore a b → ⊥
not_earlier a b y z some up h before =
    let behind : All (ComesBefore a) (b ∷ z) = All-cons (ComesBefore a) b z before (All-weaker (ComesBefore b) (ComesBefore a) (λ e q. before_all a b e before q) z up) in
    let here : weight_at (a ∷ y) a.day a.symbol.number ≡ a.value = weight_first a y a.day a.symbol.number (test_from_here a a.day a.symbol.number (refl, refl)) in
    some.2 (sym here ∙ h a.day a.symbol.number ∙ off_behind a (b ∷ z) behind)

same_key : (a b : Weight) → (ComesBefore a b → ⊥) → (ComesBefore b a → ⊥) → (a.day ≡ b.day) × (a.symbol.number ≡ b.symbol.number)
same_key a b p q =
    ⊎_elim (λ (l : a.day < b.day). absurd (p (inl l)))
    (λ (l : b.day ≤ a.day).
    ⊎_elim
    (λ (e : a.day ≡ b.day).
    ⊎_elim (λ (m : a.symbol.number < b.symbol.number). absurd (p (inr (e, m))))
    (λ (m : b.symbol.number ≤ a.symbol.number).
    ⊎_elim (λ (n : a.symbol.number ≡ b.symbol.number). (e, n))
    (λ (n : a.symbol.number ≢ b.symbol.number). absurd (q (inr (sym e, omega arith)))) (cases_eq a.symbol.number b.symbol.number))
    (cases_lt a.symbol.number b.symbol.number))
    (λ (ne : a.day ≢ b.day). absurd (q (inl (omega arith)))) (cases_eq a.day b.day))
    (cases_lt a.day b.day)

abbrev entry_of : ℕ → ℕ → ℤ → Weight
entry_of j x v = record { day = j; symbol = record { number = x }; value = v }

same_entry : (a b : Weight) → a.day ≡ b.day → a.symbol.number ≡ b.symbol.number → a.value ≡ b.value → a ≡ b
same_entry a b p q r =
    ap (λ j. entry_of j a.symbol.number a.value) p
    ∙ ap (λ x. entry_of b.day x a.value) q
    ∙ ap (λ v. entry_of b.day b.symbol.number v) r

tails_weigh_same : (a : Weight) (y z : List Weight) → All (ComesBefore a) y → All (ComesBefore a) z → WeighSame (a ∷ y) (a ∷ z) → WeighSame y z
tails_weigh_same a y z p q h = λ j x.
    elim (is_at a j x) as (λ (b : Bool). is_at a j x ≡ b → weight_at y j x ≡ weight_at z j x) [
      | true ↦ λ t.
          let k = here_from_test a j x t in
          let at : weight_at y a.day a.symbol.number ≡ weight_at z a.day a.symbol.number = off_behind a y p ∙ sym (off_behind a z q) in
          subst (λ m. weight_at y m x ≡ weight_at z m x) k.0 (subst (λ n. weight_at y a.day n ≡ weight_at z a.day n) k.1 at)
      | false ↦ λ f. sym (weight_past a y j x f) ∙ h j x ∙ weight_past a z j x f
    ] refl

weigh_nothing : (a : Weight) (y : List Weight) → IsWeight a → WeighSame [] (a ∷ y) → ⊥
weigh_nothing a y some h = some.2 (sym (weight_first a y a.day a.symbol.number (test_from_here a a.day a.symbol.number (refl, refl))) ∙ sym (h a.day a.symbol.number))

same_entries : (y z : List Weight) → AllPairs ComesBefore y → AllPairs ComesBefore z → All IsWeight y → All IsWeight z → WeighSame y z → y ≡ z
same_entries [] [] p q s t h = refl
same_entries [] (b ∷ z) p q s t h = absurd (weigh_nothing b z (All-head IsWeight b z t) h)
same_entries (a ∷ y) [] p q s t h = absurd (weigh_nothing a y (All-head IsWeight a y s) (λ j x. sym (h j x)))
same_entries (a ∷ y) (b ∷ z) p q s t h =
    let key = same_key a b
    (not_earlier a b y z (All-head IsWeight a y s) (pairs_head ComesBefore b z q) h)
    (not_earlier b a z y (All-head IsWeight b z t) (pairs_head ComesBefore a y p) (λ j x. sym (h j x))) in
    let left : weight_at (a ∷ y) a.day a.symbol.number ≡ a.value = weight_first a y a.day a.symbol.number (test_from_here a a.day a.symbol.number (refl, refl)) in
    let right : weight_at (b ∷ z) a.day a.symbol.number ≡ b.value = weight_first b z a.day a.symbol.number (test_from_here b a.day a.symbol.number (sym key.0, sym key.1)) in
    let same : b ≡ a = sym (same_entry a b key.0 key.1 (sym left ∙ h a.day a.symbol.number ∙ right)) in
    let q' : AllPairs ComesBefore (a ∷ z) = subst (λ (e : Weight). AllPairs ComesBefore (e ∷ z)) same q in
    let h' : WeighSame (a ∷ y) (a ∷ z) = subst (λ (e : Weight). WeighSame (a ∷ y) (e ∷ z)) same h in
    let rest : y ≡ z = same_entries y z (pairs_tail ComesBefore a y p) (pairs_tail ComesBefore a z q') (All-tail IsWeight a y s) (All-tail IsWeight b z t)
    (tails_weigh_same a y z (pairs_head ComesBefore a y p) (pairs_head ComesBefore a z q') h') in
    ap (λ (l : List Weight). a ∷ l) rest ∙ ap (λ (e : Weight). e ∷ z) (sym same)

pub same_weights : (y z : List Weight) → AreWeights y → AreWeights z → WeighSame y z → y ≡ z
same_weights y z p q h = same_entries y z p.ascends q.ascends p.small q.small h
