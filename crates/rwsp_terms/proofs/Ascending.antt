-- Numbers and weights in order, and what an edit of them leaves.
use Rattle.std.proofs.Common.{◌≡◌, ◌≢◌, ℕ, zero, suc, ◌+◌, ◌-◌, ◌<◌, ◌≤◌, List, [], ◌∷◌, ◌++◌, length, get_or, set, take, drop, drop-cons, Bool, true, false, cond, refl, ap, sym, ◌∙◌, subst, arith, ◌⊎◌, inl, inr, ⊎_elim, eqb, eqb-true}
use Rattle.std.specs.Prelude.{All, AllPairs, Contains, ℤ, pos, ◌↔◌}
use Rattle.std.specs.List.{insert, remove}
use Rattle.std.specs.List.Sorted.{IsStrictlyIncreasing, IsPermutation}
use Rattle.std.proofs.lemmas.List.Edits.{length-insert, get_or-insert_below, get_or-insert_at, get_or-insert_above}
use Rattle.std.proofs.lemmas.List.{get_or_default, get_or-take, get_or-drop, length-take-le, length-drop, take-append-drop, take-set, drop-set, length-set, get_or-set_other}
use Rattle.std.proofs.lemmas.Grind.{get_or-set_at}
use Rattle.std.proofs.lemmas.List.Elements.{All-head, All-tail, All-append, All-cons, All-take, All-drop, All-set}
use Rattle.std.proofs.lemmas.List.Quantifiers.{all_pairs_remove}
use Rattle.std.proofs.lemmas.List.Kept.{AllPairs-from_increasing}
use Rattle.std.proofs.lemmas.List.Sorted.{IsPermutation-insert, IsPermutation-sym, Contains-permutation}
use Rattle.std.proofs.lemmas.Bool.{cases_lt, cases_eq, and_parts}
use Rattle.std.proofs.lemmas.Bool.Decides.{nat_tests}
use Rattle.rwsp_terms.specs.Weights.{ComesBefore, IsWeight, AreWeights, weight_at}
use Rattle.rwsp_terms.specs.Places.{is_at, Precedes, Follows, EntryStands, EntryBelongs, SetsWeight}
use Rattle.rwsp_terms.specs.declared.data.Weight.{Weight}

-- where an element of a list with one more was before
abbrev Spot : {X : Type 0} (xs : List X) (i : ℕ) (y d : X) (k : ℕ) → Type 0
Spot xs i y d k =
    ((k < i) × (get_or (insert xs i y) k d ≡ get_or xs k d))
    ⊎ (((k ≡ i) × (get_or (insert xs i y) k d ≡ y))
    ⊎ ((m : ℕ) × (k ≡ m + 1) × (i ≤ m) × (m < length xs) × (get_or (insert xs i y) k d ≡ get_or xs m d)))

spot : {X : Type 0} (xs : List X) (i : ℕ) (y d : X) (k : ℕ) → i ≤ length xs → k < length xs + 1 → Spot xs i y d k
spot xs i y d k within less =
    ⊎_elim (λ (low : k < i). inl (low, get_or-insert_below xs i y d k low within))
    (λ (high : i ≤ k).
    ⊎_elim (λ (same : k ≡ i). inr (inl (same, ap (λ n. get_or (insert xs i y) n d) same ∙ get_or-insert_at xs i y d within)))
    (λ (other : k ≢ i).
    let above : i < k = omega arith in
    let e : k ≡ (k - 1) + 1 = omega arith in
    inr (inr (k - 1, e, omega arith, omega arith, ap (λ n. get_or (insert xs i y) n d) e ∙ get_or-insert_above xs i y d (k - 1) (omega arith) within)))
    (cases_eq k i))
    (cases_lt k i)

along : {X : Type 0} (R : X → X → Type 0) (u v a b : X) → u ≡ a → v ≡ b → R a b → R u v
along R u v a b e f h = subst (λ z. R z v) (sym e) (subst (λ z. R a z) (sym f) h)

pub AllPairs-insert : {X : Type 0} (R : X → X → Type 0) (xs : List X) (i : ℕ) (y : X) → i ≤ length xs → AllPairs R xs → ((k : ℕ) (d : X) → k < i → R (get_or xs k d) y) → ((k : ℕ) (d : X) → i ≤ k → k < length xs → R y (get_or xs k d)) → AllPairs R (insert xs i y)
AllPairs-insert R xs i y within pairs below above = λ a b d lt less.
    let long : length (insert xs i y) ≡ length xs + 1 = length-insert xs i y within in
    ⊎_elim
    (λ (p : (a < i) × (get_or (insert xs i y) a d ≡ get_or xs a d)).
    ⊎_elim
    (λ (q : (b < i) × (get_or (insert xs i y) b d ≡ get_or xs b d)). along R _ _ _ _ p.1 q.1 (pairs a b d lt (omega arith)))
    (⊎_elim
    (λ (q : (b ≡ i) × (get_or (insert xs i y) b d ≡ y)). along R _ _ _ _ p.1 q.1 (below a d p.0))
    (λ (q : (m : ℕ) × (b ≡ m + 1) × (i ≤ m) × (m < length xs) × (get_or (insert xs i y) b d ≡ get_or xs m d)). along R _ _ _ _ p.1 q.4 (pairs a q.0 d (omega arith) q.3)))
    (spot xs i y d b within (omega arith)))
    (⊎_elim
    (λ (p : (a ≡ i) × (get_or (insert xs i y) a d ≡ y)).
    ⊎_elim
    (λ (q : (b < i) × (get_or (insert xs i y) b d ≡ get_or xs b d)). absurd (omega arith))
    (⊎_elim
    (λ (q : (b ≡ i) × (get_or (insert xs i y) b d ≡ y)). absurd (omega arith))
    (λ (q : (m : ℕ) × (b ≡ m + 1) × (i ≤ m) × (m < length xs) × (get_or (insert xs i y) b d ≡ get_or xs m d)). along R _ _ _ _ p.1 q.4 (above q.0 d q.2 q.3)))
    (spot xs i y d b within (omega arith)))
    (λ (p : (m : ℕ) × (a ≡ m + 1) × (i ≤ m) × (m < length xs) × (get_or (insert xs i y) a d ≡ get_or xs m d)).
    ⊎_elim
    (λ (q : (b < i) × (get_or (insert xs i y) b d ≡ get_or xs b d)). absurd (omega arith))
    (⊎_elim
    (λ (q : (b ≡ i) × (get_or (insert xs i y) b d ≡ y)). absurd (omega arith))
    (λ (q : (m : ℕ) × (b ≡ m + 1) × (i ≤ m) × (m < length xs) × (get_or (insert xs i y) b d ≡ get_or xs m d)). along R _ _ _ _ p.4 q.4 (pairs p.0 q.0 d (omega arith) q.3)))
    (spot xs i y d b within (omega arith))))
    (spot xs i y d a within (omega arith))

pub increasing_from_pairs : (xs : List ℕ) → AllPairs (λ a b. a < b) xs → IsStrictlyIncreasing xs
increasing_from_pairs xs h = λ k less. h k (k + 1) 0 (omega arith) less

pub Contains-cons : {X : Type 0} (y : X) (xs : List X) (z : X) → Contains (y ∷ xs) z → Contains xs z ⊎ (z ≡ y)
Contains-cons y xs z h =
    elim (h.0) as (λ (k : ℕ). k < length (y ∷ xs) → get_or (y ∷ xs) k z ≡ z → Contains xs z ⊎ (z ≡ y)) [
      | zero ↦ λ less same. inr (sym same)
      | suc k ↦ λ less same. inl (k, omega (arith, less), same)
    ] h.1 h.2

pub Contains-later : {X : Type 0} (y : X) (xs : List X) (z : X) → Contains xs z → Contains (y ∷ xs) z
Contains-later y xs z h = (suc h.0, omega (arith, h.1), h.2)

pub Contains-first : {X : Type 0} (y : X) (xs : List X) (z : X) → z ≡ y → Contains (y ∷ xs) z
Contains-first y xs z e = (0, omega arith, sym e)

pub Contains-insert : {X : Type 0} (xs : List X) (i : ℕ) (y z : X) → Contains (insert xs i y) z ↔ (Contains xs z ⊎ (z ≡ y))
Contains-insert xs i y z =
    let moved : IsPermutation (y ∷ xs) (insert xs i y) = IsPermutation-insert xs i y in (
      λ h. Contains-cons y xs z (Contains-permutation (insert xs i y) (y ∷ xs) z (IsPermutation-sym (y ∷ xs) (insert xs i y) moved) h),
      λ h. Contains-permutation (y ∷ xs) (insert xs i y) z moved (⊎_elim (Contains-later y xs z) (Contains-first y xs z) h),
    )

-- weights

weight_step : (y : List Weight) (i j x : ℕ) (d : Weight) → i < length y → weight_at (drop i y) j x ≡ cond (is_at (get_or y i d) j x) (get_or y i d).value (weight_at (drop (i + 1) y) j x)
weight_step y i j x d less =
    let next : suc i ≡ i + 1 = omega arith in
    ap (λ (z : List Weight). weight_at z j x) (drop-cons y i d less ∙ ap (λ n. get_or y i d ∷ drop n y) next)

pub weight_here : (y : List Weight) (i j x : ℕ) (d : Weight) → i < length y → is_at (get_or y i d) j x ≡ true → weight_at (drop i y) j x ≡ (get_or y i d).value
weight_here y i j x d less e = weight_step y i j x d less ∙ ap (λ b. cond b (get_or y i d).value (weight_at (drop (i + 1) y) j x)) e

pub weight_later : (y : List Weight) (i j x : ℕ) (d : Weight) → i < length y → is_at (get_or y i d) j x ≡ false → weight_at (drop i y) j x ≡ weight_at (drop (i + 1) y) j x
weight_later y i j x d less e = weight_step y i j x d less ∙ ap (λ b. cond b (get_or y i d).value (weight_at (drop (i + 1) y) j x)) e

pub rising : (xs : List ℕ) → IsStrictlyIncreasing xs → (i j : ℕ) → i ≤ j → j < length xs → get_or xs i 0 ≤ get_or xs j 0
rising xs up i j le less =
    ⊎_elim (λ (e : i ≡ j). let same : get_or xs i 0 ≡ get_or xs j 0 = ap (λ n. get_or xs n 0) e in omega (arith, same))
    (λ (ne : i ≢ j). let lt : get_or xs i 0 < get_or xs j 0 = AllPairs-from_increasing xs up i j 0 (omega arith) less in omega (arith, lt))
    (cases_eq i j)

-- places of entries

abbrev pub IsHere : Weight → ℕ → ℕ → Type 0
IsHere e j x = (e.day ≡ j) × (e.symbol.number ≡ x)

pub here_from_test : (e : Weight) (j x : ℕ) → is_at e j x ≡ true → IsHere e j x
here_from_test e j x h = let b = and_parts (eqb e.day j) (eqb e.symbol.number x) h in (eqb-true _ _ b.0, eqb-true _ _ b.1)

pub test_from_here : (e : Weight) (j x : ℕ) → IsHere e j x → is_at e j x ≡ true
test_from_here e j x h = grind (arith, nat_tests)

not_here : (e : Weight) (j x : ℕ) → (IsHere e j x → ⊥) → is_at e j x ≡ false
not_here e j x h = elim (is_at e j x) as (λ (b : Bool). is_at e j x ≡ b → b ≡ false) [ true ↦ λ t. absurd (h (here_from_test e j x t)) | false ↦ λ t. refl ] refl

off_before : (e : Weight) (j x : ℕ) → Precedes e j x → is_at e j x ≡ false
off_before e j x h = not_here e j x (λ here. ⊎_elim (λ (l : e.day < j). omega (arith, here.0, l)) (λ (l : (e.day ≡ j) × (e.symbol.number < x)). omega (arith, here.1, l.1)) h)

pub off_after : (e : Weight) (j x : ℕ) → Follows e j x → is_at e j x ≡ false
off_after e j x h = not_here e j x (λ here. ⊎_elim (λ (l : j < e.day). omega (arith, here.0, l)) (λ (l : (e.day ≡ j) × (x < e.symbol.number)). omega (arith, here.1, l.1)) h)

-- an entry that comes neither before nor here comes after
follows_else : (e : Weight) (j x : ℕ) → (Precedes e j x → ⊥) → is_at e j x ≡ false → Follows e j x
follows_else e j x low off =
    ⊎_elim (λ (l : e.day < j). absurd (low (inl l)))
    (λ (l : j ≤ e.day).
    ⊎_elim
    (λ (same : e.day ≡ j).
    ⊎_elim (λ (m : e.symbol.number < x). absurd (low (inr (same, m))))
    (λ (m : x ≤ e.symbol.number).
    ⊎_elim (λ (n : e.symbol.number ≡ x). let t : is_at e j x ≡ true = test_from_here e j x (same, n) in absurd (cc))
    (λ (n : e.symbol.number ≢ x). inr (same, omega arith)) (cases_eq e.symbol.number x))
    (cases_lt e.symbol.number x))
    (λ (other : e.day ≢ j). inl (omega arith)) (cases_eq e.day j))
    (cases_lt e.day j)

after_here : (a b : Weight) (j x : ℕ) → IsHere a j x → ComesBefore a b → Follows b j x
after_here a b j x h before =
    ⊎_elim (λ (l : a.day < b.day). inl (omega (arith, h.0, l)))
    (λ (l : (a.day ≡ b.day) × (a.symbol.number < b.symbol.number)). inr (omega (arith, h.0, l.0), omega (arith, h.1, l.1))) before

after_follower : (a b : Weight) (j x : ℕ) → Follows a j x → ComesBefore a b → Follows b j x
after_follower a b j x h before = grind arith

pub holds_here : (y : List Weight) (j x i : ℕ) (e : Weight) → AllPairs ComesBefore y → i < length y → ((k : ℕ) (d : Weight) → k < i → Precedes (get_or y k d) j x) → is_at (get_or y i e) j x ≡ true → EntryStands y j x i
holds_here y j x i e up less before h =
    let found : IsHere (get_or y i e) j x = here_from_test (get_or y i e) j x h in
    let all : (d : Weight) → IsHere (get_or y i d) j x = λ d. subst (λ (z : Weight). IsHere z j x) (get_or_default y i e d less) found in
    record {
      within = less;
      before = before;
      here = all;
      after = λ k d lt within. after_here (get_or y i d) (get_or y k d) j x (all d) (up i k d lt within);
    }

pub lacks_here : (y : List Weight) (j x i : ℕ) (e : Weight) → AllPairs ComesBefore y → i < length y → ((k : ℕ) (d : Weight) → k < i → Precedes (get_or y k d) j x) → ((d : Weight) → i < length y → Precedes (get_or y i d) j x → ⊥) → is_at (get_or y i e) j x ≡ false → EntryBelongs y j x i
lacks_here y j x i e up less before next h =
    let here : Follows (get_or y i e) j x = follows_else (get_or y i e) j x (next e less) h in
    let all : (d : Weight) → Follows (get_or y i d) j x = λ d. subst (λ (z : Weight). Follows z j x) (get_or_default y i e d less) here in
    record {
      within = omega (arith, less);
      before = before;
      after = λ k d le within.
          ⊎_elim (λ (same : k ≡ i). subst (λ n. Follows (get_or y n d) j x) (sym same) (all d))
          (λ (other : k ≢ i). after_follower (get_or y i d) (get_or y k d) j x (all d) (up i k d (omega arith) within)) (cases_eq k i);
    }

-- what a symbol weighs on a day, after an edit elsewhere

weight_skip : (front rest : List Weight) (j x : ℕ) → All (λ (e : Weight). is_at e j x ≡ false) front → weight_at (front ++ rest) j x ≡ weight_at rest j x
weight_skip [] rest j x h = refl
weight_skip (e ∷ front) rest j x h =
    ap (λ b. cond b e.value (weight_at (front ++ rest) j x)) (All-head (λ (e : Weight). is_at e j x ≡ false) e front h)
    ∙ weight_skip front rest j x (All-tail (λ (e : Weight). is_at e j x ≡ false) e front h)

weight_behind : (front a b : List Weight) (j x : ℕ) → weight_at a j x ≡ weight_at b j x → weight_at (front ++ a) j x ≡ weight_at (front ++ b) j x
weight_behind [] a b j x h = h
weight_behind (e ∷ front) a b j x h = ap (λ v. cond (is_at e j x) e.value v) (weight_behind front a b j x h)

pub weight_none : (y : List Weight) (j x : ℕ) → All (λ (e : Weight). is_at e j x ≡ false) y → weight_at y j x ≡ pos 0
weight_none [] j x h = refl
weight_none (e ∷ y) j x h =
    ap (λ b. cond b e.value (weight_at y j x)) (All-head (λ (e : Weight). is_at e j x ≡ false) e y h)
    ∙ weight_none y j x (All-tail (λ (e : Weight). is_at e j x ≡ false) e y h)

pub weight_past : (e : Weight) (y : List Weight) (j x : ℕ) → is_at e j x ≡ false → weight_at (e ∷ y) j x ≡ weight_at y j x
weight_past e y j x h = ap (λ b. cond b e.value (weight_at y j x)) h

pub weight_first : (e : Weight) (y : List Weight) (j x : ℕ) → is_at e j x ≡ true → weight_at (e ∷ y) j x ≡ e.value
weight_first e y j x h = ap (λ b. cond b e.value (weight_at y j x)) h

off_front : (y : List Weight) (i j x : ℕ) → i ≤ length y → ((k : ℕ) (d : Weight) → k < i → Precedes (get_or y k d) j x) → All (λ (e : Weight). is_at e j x ≡ false) (take i y)
off_front y i j x within before = λ k d less.
    let long : length (take i y) ≡ i = length-take-le i y within in
    let low : k < i = omega arith in
    subst (λ (z : Weight). is_at z j x ≡ false) (sym (get_or-take i y k d low)) (off_before (get_or y k d) j x (before k d low))

off_back : (y : List Weight) (i j x : ℕ) → i ≤ length y → ((k : ℕ) (d : Weight) → i ≤ k → k < length y → Follows (get_or y k d) j x) → All (λ (e : Weight). is_at e j x ≡ false) (drop i y)
off_back y i j x within after = λ k d less.
    let long : length (drop i y) ≡ length y - i = length-drop i y in
    subst (λ (z : Weight). is_at z j x ≡ false) (sym (get_or-drop i y k d)) (off_after (get_or y (i + k) d) j x (after (i + k) d (omega arith) (omega arith)))

-- another symbol or another day
off_other : (e : Weight) (j x k z : ℕ) → e.day ≡ j → e.symbol.number ≡ x → ((k ≡ j) × (z ≡ x) → ⊥) → is_at e k z ≡ false
off_other e j x k z a b h = not_here e k z (λ here. h (omega (arith, here.0), omega (arith, here.1)))

split_at : (y : List Weight) (i : ℕ) (d : Weight) → i < length y → y ≡ take i y ++ (get_or y i d ∷ drop (suc i) y)
split_at y i d less = sym (take-append-drop i y) ∙ ap (λ z. take i y ++ z) (drop-cons y i d less)

comes_first : (a b : Weight) → Follows b a.day a.symbol.number → ComesBefore a b
comes_first a b h = ⊎_elim (λ (l : a.day < b.day). inl l) (λ (l : (b.day ≡ a.day) × (a.symbol.number < b.symbol.number)). inr (sym l.0, l.1)) h

pub inserted : (y : List Weight) (i : ℕ) (e : Weight) → AreWeights y → EntryBelongs y e.day e.symbol.number i → IsWeight e → SetsWeight y (insert y i e) e.day e.symbol.number e.value
inserted y i e w lacks value = record {
  weights = record {
    ascends = AllPairs-insert ComesBefore y i e lacks.within w.ascends (λ k d low. lacks.before k d low) (λ k d high less. comes_first e (get_or y k d) (lacks.after k d high less));
    small = All-append IsWeight (take i y) (e ∷ drop i y) (All-take IsWeight i y w.small) (All-cons IsWeight e (drop i y) value (All-drop IsWeight i y w.small));
  };
  here = weight_skip (take i y) (e ∷ drop i y) e.day e.symbol.number (off_front y i e.day e.symbol.number lacks.within lacks.before) ∙ weight_first e (drop i y) e.day e.symbol.number (test_from_here e e.day e.symbol.number (refl, refl));
  elsewhere = λ k z other.
      weight_behind (take i y) (e ∷ drop i y) (drop i y) k z (weight_past e (drop i y) k z (off_other e e.day e.symbol.number k z refl refl other))
      ∙ ap (λ (l : List Weight). weight_at l k z) (take-append-drop i y);
}

pub left_out : (y : List Weight) (i j x : ℕ) (value : ℤ) → value ≡ pos 0 → AreWeights y → EntryBelongs y j x i → SetsWeight y y j x value
left_out y i j x value none w lacks = record {
  weights = w;
  here = ap (λ (l : List Weight). weight_at l j x) (sym (take-append-drop i y))
      ∙ weight_skip (take i y) (drop i y) j x (off_front y i j x lacks.within lacks.before)
      ∙ weight_none (drop i y) j x (off_back y i j x lacks.within lacks.after)
      ∙ sym none;
  elsewhere = λ k z other. refl;
}

pub removed : (y : List Weight) (i j x : ℕ) (d : Weight) (value : ℤ) → value ≡ pos 0 → AreWeights y → EntryStands y j x i → SetsWeight y (remove y i) j x value
removed y i j x d value none w holds =
    let within : suc i ≤ length y = omega (arith, holds.within) in
    let front : i ≤ length y = omega (arith, holds.within) in
    record {
      weights = record {
        ascends = all_pairs_remove ComesBefore y i holds.within w.ascends;
        small = All-append IsWeight (take i y) (drop (suc i) y) (All-take IsWeight i y w.small) (All-drop IsWeight (suc i) y w.small);
      };
      here = weight_skip (take i y) (drop (suc i) y) j x (off_front y i j x front holds.before)
          ∙ weight_none (drop (suc i) y) j x (off_back y (suc i) j x within (λ k d high less. holds.after k d (omega arith) less))
          ∙ sym none;
      elsewhere = λ k z other.
          weight_behind (take i y) (drop (suc i) y) (get_or y i d ∷ drop (suc i) y) k z (sym (weight_past (get_or y i d) (drop (suc i) y) k z (off_other (get_or y i d) j x k z (holds.here d).0 (holds.here d).1 other)))
          ∙ ap (λ (l : List Weight). weight_at l k z) (sym (split_at y i d holds.within));
    }

same_key_before : (a e b : Weight) → a.day ≡ e.day → a.symbol.number ≡ e.symbol.number → ComesBefore a b → ComesBefore e b
same_key_before a e b p q h = grind arith

before_same_key : (a b e : Weight) → b.day ≡ e.day → b.symbol.number ≡ e.symbol.number → ComesBefore a b → ComesBefore a e
before_same_key a b e p q h = grind arith

-- an entry that takes the place of one with its day and symbol
AllPairs-set : (y : List Weight) (i : ℕ) (e : Weight) → EntryStands y e.day e.symbol.number i → AllPairs ComesBefore y → AllPairs ComesBefore (set y i e)
AllPairs-set y i e holds up = λ a b d lt less.
    let long : length (set y i e) ≡ length y = length-set y i e in
    let old : ComesBefore (get_or y a d) (get_or y b d) = up a b d lt (omega arith) in
    ⊎_elim
    (λ (p : a ≡ i).
    along ComesBefore _ _ _ _ (get_or-set_at y i a e d p holds.within) (get_or-set_other y i b e d (omega arith))
    (same_key_before (get_or y a d) e (get_or y b d) (ap (λ n. (get_or y n d).day) p ∙ (holds.here d).0) (ap (λ n. (get_or y n d).symbol.number) p ∙ (holds.here d).1) old))
    (λ (p : a ≢ i).
    ⊎_elim
    (λ (q : b ≡ i).
    along ComesBefore _ _ _ _ (get_or-set_other y i a e d p) (get_or-set_at y i b e d q holds.within)
    (before_same_key (get_or y a d) (get_or y b d) e (ap (λ n. (get_or y n d).day) q ∙ (holds.here d).0) (ap (λ n. (get_or y n d).symbol.number) q ∙ (holds.here d).1) old))
    (λ (q : b ≢ i). along ComesBefore _ _ _ _ (get_or-set_other y i a e d p) (get_or-set_other y i b e d q) old)
    (cases_eq b i))
    (cases_eq a i)

set_split : (y : List Weight) (i : ℕ) (e : Weight) → i < length y → set y i e ≡ take i y ++ (e ∷ drop (suc i) y)
set_split y i e less =
    let next : i + 1 ≡ suc i = omega arith in
    sym (take-append-drop i (set y i e))
    ∙ ap (λ (l : List Weight). l ++ drop i (set y i e)) (take-set y i e)
    ∙ ap (λ (l : List Weight). take i y ++ l) (drop-set y i e less ∙ ap (λ n. e ∷ drop n y) next)

pub changed : (y : List Weight) (i : ℕ) (e : Weight) → AreWeights y → EntryStands y e.day e.symbol.number i → IsWeight e → SetsWeight y (set y i e) e.day e.symbol.number e.value
changed y i e w holds value =
    let split : set y i e ≡ take i y ++ (e ∷ drop (suc i) y) = set_split y i e holds.within in
    record {
      weights = record {
        ascends = AllPairs-set y i e holds w.ascends;
        small = All-set IsWeight y i e value w.small;
      };
      here = ap (λ (l : List Weight). weight_at l e.day e.symbol.number) split
          ∙ weight_skip (take i y) (e ∷ drop (suc i) y) e.day e.symbol.number (off_front y i e.day e.symbol.number (omega (arith, holds.within)) holds.before)
          ∙ weight_first e (drop (suc i) y) e.day e.symbol.number (test_from_here e e.day e.symbol.number (refl, refl));
      elsewhere = λ k z other.
          ap (λ (l : List Weight). weight_at l k z) split
          ∙ weight_behind (take i y) (e ∷ drop (suc i) y) (get_or y i e ∷ drop (suc i) y) k z
          (weight_past e (drop (suc i) y) k z (off_other e e.day e.symbol.number k z refl refl other)
          ∙ sym (weight_past (get_or y i e) (drop (suc i) y) k z (off_other (get_or y i e) e.day e.symbol.number k z (holds.here e).0 (holds.here e).1 other)))
          ∙ ap (λ (l : List Weight). weight_at l k z) (sym (split_at y i e holds.within));
    }
