-- Weights one step on.
use Rattle.std.proofs.Common.{◌≡◌, ◌≢◌, ℕ, zero, suc, ◌+◌, ◌<◌, ◌≤◌, List, [], ◌∷◌, get_or, Bool, true, false, ◌&&◌, ◌==◌, refl, sym, ◌∙◌, subst, arith, ◌⊎◌, inl, inr, ⊎_elim, pos, ℤ, if◌then◌else◌}
use Rattle.std.specs.Prelude.{All, AllPairs, ◌+ℤ◌, ◌-ℤ◌, int_lt}
use Rattle.std.proofs.lemmas.Int.{ints}
use Rattle.std.proofs.lemmas.Bool.{cases_lt, cases_eq}
use Rattle.rwsp_terms.specs.declared.data.Symbol.{Symbol}
use Rattle.rwsp_terms.specs.declared.data.Weight.{Weight}
use Rattle.rwsp_terms.specs.Instance.{Instance, shift_count, least, greatest, IsDay, IsSymbol}
use Rattle.rwsp_terms.specs.Roster.{weeks_with}
use Rattle.rwsp_terms.specs.Weights.{IsWeight, AreWeights, ComesBefore, weight_at}
use Rattle.rwsp_terms.specs.Places.{SetsWeight}
use Rattle.refutation_terms.specs.Ranges.{AreWeightsOf}
use Rattle.refutation_terms.specs.Sharp.{step, AreStepped}
use Rattle.clean_words.specs.Searched.{AreValuesWithin, AreSteppedOn}
use Rattle.clean_words.proofs.Products.{IsBetween}

-- a day and a symbol of the problem
abbrev pub IsInside : Instance → ℕ → ℕ → Type 0
IsInside P j x = IsDay P j × (x ≤ shift_count P)

pub inside_or_not : (P : Instance) (j x : ℕ) → IsInside P j x ⊎ (IsInside P j x → ⊥)
inside_or_not P j x =
    ⊎_elim
    (λ (some : 0 < j).
    ⊎_elim (λ (late : P.days < j). inr (λ (h : IsInside P j x). omega (arith, late, h.0.1)))
    (λ (day : j ≤ P.days).
    ⊎_elim (λ (high : shift_count P < x). inr (λ (h : IsInside P j x). omega (arith, high, h.1)))
    (λ (low : x ≤ shift_count P). inl ((some, day), low))
    (cases_lt (shift_count P) x))
    (cases_lt P.days j))
    (λ (none : j ≤ 0). inr (λ (h : IsInside P j x). omega (arith, none, h.0.0)))
    (cases_lt 0 j)

-- an entry for another day or symbol changes nothing
not_its : (e : Weight) (j x : ℕ) → ((e.day ≡ j) × (e.symbol.number ≡ x) → ⊥) → (b : Bool) → ((e.day == j) && (e.symbol.number == x)) ≡ b → (v : ℤ) → (if b then e.value else v) ≡ v
not_its e j x ne true is v = absurd (ne (grind arith, grind arith))
not_its e j x ne false is v = refl

-- weights on days and symbols of the problem are 0 elsewhere
zero_by : (P : Instance) (y : List Weight) → All (λ e. IsDay P e.day × IsSymbol P e.symbol) y → (j x : ℕ) → (IsInside P j x → ⊥) → weight_at y j x ≡ pos 0
zero_by P [] all j x outside = refl
zero_by P (e ∷ y) all j x outside =
    let first : IsDay P e.day × IsSymbol P e.symbol = all 0 e (omega arith) in
    let ne : (e.day ≡ j) × (e.symbol.number ≡ x) → ⊥ = λ h.
    let day : IsDay P j = (omega (arith, first.0.0, h.0), omega (arith, first.0.1, h.0)) in
    outside (day, omega (arith, first.1, h.1)) in
    not_its e j x ne ((e.day == j) && (e.symbol.number == x)) refl (weight_at y j x) ∙ zero_by P y (λ k d lt. all (suc k) d (omega (arith, lt))) j x outside

pub zero_outside : (P : Instance) (y : List Weight) → AreWeightsOf P y → (j x : ℕ) → (IsInside P j x → ⊥) → weight_at y j x ≡ pos 0
zero_outside P y h j x outside = zero_by P y h.1 j x outside

-- each entry is what its place weighs
its_value : (e : Weight) (y : List Weight) → weight_at (e ∷ y) e.day e.symbol.number ≡ e.value
its_value e y = grind arith

not_earlier : (a e : Weight) → ComesBefore a e → (a.day ≡ e.day) × (a.symbol.number ≡ e.symbol.number) → ⊥
not_earlier a e (inl lt) h = omega (arith, lt, h.0)
not_earlier a e (inr lt) h = omega (arith, lt.1, h.1)

value_of : (y : List Weight) → AllPairs ComesBefore y → All (λ e. weight_at y e.day e.symbol.number ≡ e.value) y
value_of [] up k d lt = absurd (omega (arith, lt))
value_of (a ∷ y) up zero d lt = its_value a y
value_of (a ∷ y) up (suc k) d lt =
    let e : Weight = get_or y k d in
    let before : ComesBefore a e = up 0 (suc k) d (omega arith) lt in
    let rest : AllPairs ComesBefore y = λ i j c less within. up (suc i) (suc j) c (omega (arith, less)) (omega (arith, within)) in
    not_its a e.day e.symbol.number (not_earlier a e before) ((a.day == e.day) && (a.symbol.number == e.symbol.number)) refl (weight_at y e.day e.symbol.number)
    ∙ value_of y rest k d (omega (arith, lt))

-- so weights that are 0 elsewhere are on days and symbols of the problem
pub of_problem : (P : Instance) (y : List Weight) → AreWeights y → ((j x : ℕ) → (IsInside P j x → ⊥) → weight_at y j x ≡ pos 0) → AreWeightsOf P y
of_problem P y h zeros = (h, each)
  where
    each : All (λ e. IsDay P e.day × IsSymbol P e.symbol) y
    each k d lt =
        let e : Weight = get_or y k d in
        let some : IsWeight e = h.small k d lt in
        ⊎_elim (λ (inside : IsInside P e.day e.symbol.number). inside)
        (λ (outside : IsInside P e.day e.symbol.number → ⊥). absurd (some.2 (sym (value_of y h.ascends k d lt) ∙ zeros e.day e.symbol.number outside)))
        (inside_or_not P e.day e.symbol.number)

-- a step is by one at most
by_one : (n : ℕ) (v : ℤ) (over under : Bool) → IsBetween n v → IsBetween (n + 1) (if over then v -ℤ pos 1 else (if under then v +ℤ pos 1 else v))
by_one n v true under h = (omega (arith, ints, h.0), omega (arith, ints, h.1))
by_one n v false true h = (omega (arith, ints, h.0), omega (arith, ints, h.1))
by_one n v false false h = (omega (arith, ints, h.0), omega (arith, ints, h.1))

pub step_within : (P : Instance) (y : List Weight) (word : List Symbol) (n j x : ℕ) → AreValuesWithin n y → IsBetween (n + 1) (step P y word j x)
step_within P y word n j x h = by_one n (weight_at y j x) (int_lt (greatest P x j) (pos (weeks_with P word x j))) (int_lt (pos (weeks_with P word x j)) (least P x j)) (h j x)

pub stepped_within : (P : Instance) (y next : List Weight) (word : List Symbol) (n : ℕ) → AreValuesWithin n y → AreStepped P y word next → AreValuesWithin (n + 1) next
stepped_within P y next word n h stepped j x =
    let B : ℤ → Type 0 = IsBetween (n + 1) in
    ⊎_elim (λ (inside : IsInside P j x). subst B (sym (stepped.values j x inside.0 inside.1)) (step_within P y word n j x h))
    (λ (outside : IsInside P j x → ⊥). subst B (sym (zero_outside P next stepped.are_weights j x outside)) (omega (arith, ints), omega (arith, ints)))
    (inside_or_not P j x)

-- the first weights of a day are a step on
pub record SteppedBelow (P : Instance) (y : List Weight) (word : List Symbol) (day n : ℕ) (old new : List Weight) : Type 0 where
  pub here : (x : ℕ) → x < n → weight_at new day x ≡ step P y word day x
  pub above : (x : ℕ) → n ≤ x → weight_at new day x ≡ weight_at old day x
  pub elsewhere : (j x : ℕ) → (j ≡ day → ⊥) → weight_at new j x ≡ weight_at old j x

pub day_started : (P : Instance) (y : List Weight) (word : List Symbol) (day : ℕ) (old : List Weight) → SteppedBelow P y word day 0 old old
day_started P y word day old = record { here = λ x lt. absurd (omega (arith, lt)); above = λ x le. refl; elsewhere = λ j x ne. refl }

pub day_stepped : (P : Instance) (y : List Weight) (word : List Symbol) (day n : ℕ) (old mid new : List Weight) (v : ℤ) → SteppedBelow P y word day n old mid → SetsWeight mid new day n v → v ≡ step P y word day n → SteppedBelow P y word day (n + 1) old new
day_stepped P y word day n old mid new v h sets is = record {
  here = λ x lt.
      let below : x ≢ n → weight_at new day x ≡ step P y word day x = λ ne. sets.elsewhere day x (λ k. ne k.1) ∙ h.here x (omega (arith, lt, ne)) in
      let Q : ℕ → Type 0 = λ z. weight_at new day z ≡ step P y word day z in
      ⊎_elim (λ (e : x ≡ n). subst Q (sym e) (sets.here ∙ is)) below (cases_eq x n);
  above = λ x le. sets.elsewhere day x (λ k. omega (arith, le, k.1)) ∙ h.above x (omega (arith, le));
  elsewhere = λ j x ne. sets.elsewhere j x (λ k. ne k.0) ∙ h.elsewhere j x ne;
}

pub day_done : (P : Instance) (y : List Weight) (word : List Symbol) (day n : ℕ) (old new : List Weight) → SteppedBelow P y word day n old new → n ≡ shift_count P + 1 → AreSteppedOn P y word day old new
day_done P y word day n old new h all = record {
  here = λ x le. h.here x (omega (arith, le, all));
  above = λ x lt. h.above x (omega (arith, lt, all));
  elsewhere = h.elsewhere;
}

-- the weights of the first days are a step on, and no others are there
pub record SteppedTo (P : Instance) (y : List Weight) (word : List Symbol) (n : ℕ) (new : List Weight) : Type 0 where
  pub values : (j x : ℕ) → 0 < j → j ≤ n → x ≤ shift_count P → weight_at new j x ≡ step P y word j x
  pub early : (j x : ℕ) → n < j → weight_at new j x ≡ pos 0
  pub first : (x : ℕ) → weight_at new 0 x ≡ pos 0
  pub high : (j x : ℕ) → shift_count P < x → weight_at new j x ≡ pos 0

pub days_started : (P : Instance) (y : List Weight) (word : List Symbol) → SteppedTo P y word 0 []
days_started P y word = record {
  values = λ j x some few le. absurd (omega (arith, some, few));
  early = λ j x lt. refl;
  first = λ x. refl;
  high = λ j x lt. refl;
}

pub days_stepped : (P : Instance) (y : List Weight) (word : List Symbol) (n : ℕ) (old new : List Weight) → SteppedTo P y word n old → AreSteppedOn P y word (n + 1) old new → SteppedTo P y word (n + 1) new
days_stepped P y word n old new h on = record {
  values = λ j x some few le.
      let Q : ℕ → Type 0 = λ d. weight_at new d x ≡ step P y word d x in
      ⊎_elim (λ (e : j ≡ n + 1). subst Q (sym e) (on.here x le)) (λ (ne : j ≢ n + 1). on.elsewhere j x ne ∙ h.values j x some (omega (arith, few, ne)) le) (cases_eq j (n + 1));
  early = λ j x lt. on.elsewhere j x (λ e. omega (arith, lt, e)) ∙ h.early j x (omega (arith, lt));
  first = λ x. on.elsewhere 0 x (λ e. omega (arith, e)) ∙ h.first x;
  high = λ j x lt.
      let Q : ℕ → Type 0 = λ d. weight_at new d x ≡ pos 0 in
      ⊎_elim (λ (e : j ≡ n + 1). subst Q (sym e) (on.above x lt ∙ h.high (n + 1) x lt)) (λ (ne : j ≢ n + 1). on.elsewhere j x ne ∙ h.high j x lt) (cases_eq j (n + 1));
}

pub days_done : (P : Instance) (y : List Weight) (word : List Symbol) (n : ℕ) (new : List Weight) → SteppedTo P y word n new → n ≡ P.days → AreWeights new → AreStepped P y word new
days_done P y word n new h all weights = record {
  are_weights = of_problem P new weights zeros;
  values = λ j x day le. h.values j x day.0 (omega (arith, day.1, all)) le;
}
  where
    zeros : (j x : ℕ) → (IsInside P j x → ⊥) → weight_at new j x ≡ pos 0
    zeros j x outside =
        let Q : ℕ → Type 0 = λ d. weight_at new d x ≡ pos 0 in
        ⊎_elim (λ (high : shift_count P < x). h.high j x high)
        (λ (low : x ≤ shift_count P).
        ⊎_elim (λ (late : P.days < j). h.early j x (omega (arith, late, all)))
        (λ (day : j ≤ P.days).
        ⊎_elim (λ (some : 0 < j). absurd (outside ((some, day), low))) (λ (none : j ≤ 0). let e : j ≡ 0 = omega (arith, none) in subst Q (sym e) (h.first x))
        (cases_lt 0 j))
        (cases_lt P.days j))
        (cases_lt (shift_count P) x)
