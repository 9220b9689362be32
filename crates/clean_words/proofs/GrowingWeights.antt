-- Lists of weights that grow at the end.
use Rattle.std.proofs.Common.{◌≡◌, ℕ, zero, suc, ◌+◌, ◌*◌, ◌<◌, List, [], ◌∷◌, ◌++◌, Bool, true, false, ◌&&◌, ◌==◌, refl, ap, sym, ◌∙◌, subst, arith, inl, inr, pos, ℤ, if◌then◌else◌, length, get_or, map, append_assoc}
use Rattle.std.specs.Prelude.{All}
use Rattle.std.specs.List.{range_with_len, flat_map}
use Rattle.std.proofs.lemmas.List.Elements.{All-append, All-cons, All-nil}
use Rattle.std.proofs.lemmas.List.Quantifiers.{all_pairs_push}
use Rattle.rwsp_terms.specs.declared.data.Weight.{Weight}
use Rattle.std.proofs.lemmas.Grind.{flat_map-append}
use Rattle.std.proofs.lemmas.List.{map-append, append-nil}
use Rattle.rwsp_terms.specs.Instance.{Instance, shift_count}
use Rattle.refutation_terms.specs.Sharp.{both_signs, plain_bounds}
use Rattle.rwsp_terms.specs.Weights.{IsWeight, AreWeights, ComesBefore, weight_at}
use Rattle.rwsp_terms.specs.Places.{SetsWeight}
use Rattle.rwsp_terms.proofs.SameLists.{same_weights}
use Rattle.rwsp_terms.proofs.Counting.{range_more}
use Rattle.clean_words.specs.Days.{weight_of, weights_of_day}

-- an earlier entry isn't for the place of a later one
not_there : (a e : Weight) → ComesBefore a e → ((a.day == e.day) && (a.symbol.number == e.symbol.number)) ≡ false
not_there a e (inl lt) = grind arith
not_there a e (inr h) = grind (arith, h.0, h.1)

-- a weight at the end is that of its place
at_last : (y : List Weight) (e : Weight) → All (λ a. ComesBefore a e) y → weight_at (y ++ e ∷ []) e.day e.symbol.number ≡ e.value
at_last [] e all = grind arith
at_last (a ∷ y) e all =
    ap (λ b. if b then a.value else weight_at (y ++ e ∷ []) e.day e.symbol.number) (not_there a e (all 0 e (omega arith)))
    ∙ at_last y e (λ k d lt. all (suc k) d (omega (arith, lt)))

not_here : (e : Weight) (j x : ℕ) → ((j ≡ e.day) × (x ≡ e.symbol.number) → ⊥) → (b : Bool) → ((e.day == j) && (e.symbol.number == x)) ≡ b → (if b then e.value else pos 0) ≡ pos 0
not_here e j x ne true is = absurd (ne (grind arith, grind arith))
not_here e j x ne false is = refl

elsewhere : (y : List Weight) (e : Weight) (j x : ℕ) → ((j ≡ e.day) × (x ≡ e.symbol.number) → ⊥) → weight_at (y ++ e ∷ []) j x ≡ weight_at y j x
elsewhere [] e j x ne = not_here e j x ne ((e.day == j) && (e.symbol.number == x)) refl
elsewhere (a ∷ y) e j x ne = ap (λ z. if (a.day == j) && (a.symbol.number == x) then a.value else z) (elsewhere y e j x ne)

all_push : (P : Weight → Type 0) (y : List Weight) (e : Weight) → All P y → P e → All P (y ++ e ∷ [])
all_push P y e all last = All-append P y (e ∷ []) all (All-cons P e [] last (All-nil P))

longer : (y : List Weight) (e : Weight) → AreWeights y → IsWeight e → All (λ a. ComesBefore a e) y → AreWeights (y ++ e ∷ [])
longer y e h small all = record { ascends = all_pairs_push ComesBefore y e h.ascends (λ k d lt. all k d lt); small = all_push IsWeight y e h.small small }

-- a weight that is set behind all others is at the end
pub set_last : (y new : List Weight) (e : Weight) → AreWeights y → IsWeight e → All (λ a. ComesBefore a e) y → SetsWeight y new e.day e.symbol.number e.value → new ≡ y ++ e ∷ []
set_last y new e h small all sets = same_weights new (y ++ e ∷ []) sets.weights (longer y e h small all) same
  where
    by_place : (j x : ℕ) → (a b : Bool) → (e.day == j) ≡ a → (e.symbol.number == x) ≡ b → weight_at new j x ≡ weight_at (y ++ e ∷ []) j x
    by_place j x true true p q =
        let day : e.day ≡ j = grind arith in
        let symbol : e.symbol.number ≡ x = grind arith in
        let P : ℕ → Type 0 = λ k. weight_at new k x ≡ weight_at (y ++ e ∷ []) k x in
        let Q : ℕ → Type 0 = λ z. weight_at new e.day z ≡ weight_at (y ++ e ∷ []) e.day z in
        subst P day (subst Q symbol (sets.here ∙ sym (at_last y e all)))
    by_place j x false b p q =
        let ne : (j ≡ e.day) × (x ≡ e.symbol.number) → ⊥ = λ h. grind (arith, h.0) in
        sets.elsewhere j x ne ∙ sym (elsewhere y e j x ne)
    by_place j x true false p q =
        let ne : (j ≡ e.day) × (x ≡ e.symbol.number) → ⊥ = λ h. grind (arith, h.1) in
        sets.elsewhere j x ne ∙ sym (elsewhere y e j x ne)

    same : (j x : ℕ) → weight_at new j x ≡ weight_at (y ++ e ∷ []) j x
    same j x = by_place j x (e.day == j) (e.symbol.number == x) refl refl

-- a day's weights grow by one
pub record GrowsInDay (old w : List Weight) (day first i : ℕ) (v : ℤ) : Type 0 where
  pub is : w ≡ old ++ weights_of_day day (range_with_len first i) v
  pub before : All (λ e. ComesBefore e (weight_of day (first + i) v)) w

pub day_started : (w : List Weight) (day first : ℕ) (v : ℤ) → All (λ e. e.day < day) w → GrowsInDay w w day first 0 v
day_started w day first v all = record { is = sym (append-nil w); before = λ k d lt. inl (all k d lt) }

nearer : (a : Weight) (day x z : ℕ) (v : ℤ) → x < z → ComesBefore a (weight_of day x v) → ComesBefore a (weight_of day z v)
nearer a day x z v lt (inl earlier) = inl earlier
nearer a day x z v lt (inr h) = inr (h.0, omega (arith, lt, h.1))

pub day_grown : (old w new : List Weight) (day first i : ℕ) (v : ℤ) → GrowsInDay old w day first i v → new ≡ w ++ weight_of day (first + i) v ∷ [] → GrowsInDay old new day first (i + 1) v
day_grown old w new day first i v h more =
    let lt : first + i < first + (i + 1) = omega arith in
    let P : List Weight → Type 0 = All (λ e. ComesBefore e (weight_of day (first + (i + 1)) v)) in
    let f : ℕ → Weight = λ x. weight_of day x v in
    let grown : weights_of_day day (range_with_len first (i + 1)) v ≡ weights_of_day day (range_with_len first i) v ++ weight_of day (first + i) v ∷ [] = ap (map f) (range_more first i) ∙ map-append f (range_with_len first i) ((first + i) ∷ []) in
    record {
      is =
          more ∙ ap (λ z. z ++ weight_of day (first + i) v ∷ []) h.is
          ∙ append_assoc old (weights_of_day day (range_with_len first i) v) (weight_of day (first + i) v ∷ [])
          ∙ ap (λ z. old ++ z) (sym grown);
      before =
          subst P (sym more)
          (all_push (λ e. ComesBefore e (weight_of day (first + (i + 1)) v)) w (weight_of day (first + i) v)
          (λ k d less. nearer (get_or w k d) day (first + i) (first + (i + 1)) v lt (h.before k d less))
          (inr (refl, lt)));
    }

-- weights of some shifts grow by a day
pub record GrowsByDays (w : List Weight) (xs : List ℕ) (i : ℕ) (v : ℤ) : Type 0 where
  pub is : w ≡ flat_map (λ j. weights_of_day j xs v) (range_with_len 1 i)
  pub before : All (λ e. e.day < i + 1) w

all_of_day : (day : ℕ) (xs : List ℕ) (v : ℤ) (n : ℕ) → day < n → All (λ e. e.day < n) (weights_of_day day xs v)
all_of_day day [] v n lt = All-nil (λ e. e.day < n)
all_of_day day (x ∷ xs) v n lt = All-cons (λ e. e.day < n) (weight_of day x v) (weights_of_day day xs v) lt (all_of_day day xs v n lt)

pub days_grown : (w new : List Weight) (xs : List ℕ) (i : ℕ) (v : ℤ) → GrowsByDays w xs i v → new ≡ w ++ weights_of_day (i + 1) xs v → GrowsByDays new xs (i + 1) v
days_grown w new xs i v h more =
    let f : ℕ → List Weight = λ j. weights_of_day j xs v in
    let P : List Weight → Type 0 = All (λ e. e.day < i + 1 + 1) in
    let next : 1 + i ≡ i + 1 = omega arith in
    let grown : flat_map f (range_with_len 1 (i + 1)) ≡ flat_map f (range_with_len 1 i) ++ weights_of_day (i + 1) xs v =
    ap (flat_map f) (range_more 1 i) ∙ flat_map-append f (range_with_len 1 i) ((1 + i) ∷ []) ∙ ap (λ z. flat_map f (range_with_len 1 i) ++ z) (append-nil (f (1 + i))) ∙ ap (λ k. flat_map f (range_with_len 1 i) ++ f k) next in
    record {
      is = more ∙ ap (λ z. z ++ weights_of_day (i + 1) xs v) h.is ∙ sym grown;
      before = subst P (sym more) (All-append (λ e. e.day < i + 1 + 1) w (weights_of_day (i + 1) xs v) (λ k d lt. omega (arith, h.before k d lt)) (all_of_day (i + 1) xs v (i + 1 + 1) (omega arith)));
    }

-- plain bounds grow by a shift
pub bounds_grown : (P : Instance) (old new : List (List Weight)) (i : ℕ) → old ≡ both_signs P (range_with_len 1 (shift_count P)) ++ flat_map (λ x. both_signs P (x ∷ [])) (range_with_len 1 i) → new ≡ old ++ both_signs P (range_with_len (i + 1) 1) → new ≡ both_signs P (range_with_len 1 (shift_count P)) ++ flat_map (λ x. both_signs P (x ∷ [])) (range_with_len 1 (i + 1))
bounds_grown P old new i is more =
    let f : ℕ → List (List Weight) = λ x. both_signs P (x ∷ []) in
    let next : 1 + i ≡ i + 1 = omega arith in
    let grown : flat_map f (range_with_len 1 (i + 1)) ≡ flat_map f (range_with_len 1 i) ++ f (i + 1) =
    ap (flat_map f) (range_more 1 i) ∙ flat_map-append f (range_with_len 1 i) ((1 + i) ∷ []) ∙ ap (λ z. flat_map f (range_with_len 1 i) ++ z) (append-nil (f (1 + i))) ∙ ap (λ k. flat_map f (range_with_len 1 i) ++ f k) next in
    more ∙ ap (λ z. z ++ f (i + 1)) is ∙ append_assoc (both_signs P (range_with_len 1 (shift_count P))) (flat_map f (range_with_len 1 i)) (f (i + 1)) ∙ ap (λ z. both_signs P (range_with_len 1 (shift_count P)) ++ z) (sym grown)

-- how many plain bounds there are
both_count : (P : Instance) (a n : ℕ) → length (flat_map (λ x. both_signs P (x ∷ [])) (range_with_len a n)) ≡ 2 * n
both_count P a zero = refl
both_count P a (suc n) = omega (arith, both_count P (a + 1) n)

pub plain_count : (P : Instance) (bounds : List (List Weight)) → bounds ≡ plain_bounds P → length bounds ≡ 2 * (shift_count P + 1)
plain_count P bounds is =
    let e : length (plain_bounds P) ≡ 2 + length (flat_map (λ x. both_signs P (x ∷ [])) (range_with_len 1 (shift_count P))) = omega arith in
    ap length is ∙ e ∙ omega (arith, both_count P 1 (shift_count P))
