-- Lists of steps with one more.
use Rattle.std.proofs.Common.{◌≡◌, ◌⊎◌, ℕ, ◌+◌, ◌<◌, ◌≤◌, List, [], ◌∷◌, ◌++◌, length, get_or, Some, None, refl, ap, sym, ◌∙◌, subst, inl, inr, arith, rules}
use Rattle.std.specs.Prelude.{◌↔◌, Contains}
use Rattle.std.proofs.Math.Nat.{eq-or-lt_of_le}
use Rattle.std.proofs.lemmas.Bool.{cases_lt}
use Rattle.std.proofs.lemmas.List.{get_or_past}
use Rattle.std.proofs.lemmas.List.Elements.{Contains-append_cases, Contains-append_left, Contains-push, Contains-get_or}
use Rattle.std.proofs.lemmas.List.Quantifiers.{all_pairs_push}
use Rattle.rwsp_terms.specs.declared.data.Symbol.{Symbol}
use Rattle.rwsp_terms.specs.Instance.{symbol_numbered}
use Rattle.clean_words.specs.Moves.{Moves, move_at}
use Rattle.clean_words.specs.Automata.{StepBefore}
use Rattle.clean_words.specs.Tables.{ComesBefore, AreStepsBefore}
use Rattle.clean_words.specs.declared.step.Step.{Step}
use Rattle.clean_words.proofs.Leading.{moves_from}

abbrev step_by : ℕ → ℕ → ℕ → Step
step_by s x t = record { from = s; symbol = symbol_numbered x; to = t }

-- an element of a list with one more is one of the list, or that one
contains_cases : {X : Type 0} (xs : List X) (y x : X) → Contains (xs ++ y ∷ []) x → Contains xs x ⊎ (y ≡ x)
contains_cases {X} xs y x h = by_cases (Contains-append_cases xs (y ∷ []) x h)
  where
    one : (c : Contains (y ∷ []) x) → y ≡ x
    one (k, lt, e) = let zero_k : k ≡ 0 = omega arith in subst (λ i. get_or (y ∷ []) i x ≡ x) zero_k e

    by_cases : Contains xs x ⊎ Contains (y ∷ []) x → Contains xs x ⊎ (y ≡ x)
    by_cases (inl c) = inl c
    by_cases (inr c) = inr (one c)

-- what comes before the next number comes before this one, or is this one
before_next : (s x state number : ℕ) → ComesBefore s x state (number + 1) → ComesBefore s x state number ⊎ ((s ≡ state) × (x ≡ number))
before_next s x state number (inl lt) = inl (inl lt)
before_next s x state number (inr (same, lt)) = by_order (eq-or-lt_of_le {n = x} {m = number} (omega arith))
  where
    by_order : (x ≡ number) ⊎ (x < number) → ComesBefore s x state number ⊎ ((s ≡ state) × (x ≡ number))
    by_order (inl equal) = inr (same, equal)
    by_order (inr less) = inl (inr (same, less))

before_more : (s x state number : ℕ) → ComesBefore s x state number → ComesBefore s x state (number + 1)
before_more s x state number (inl lt) = inl lt
before_more s x state number (inr (same, lt)) = inr (same, omega arith)

pub steps_none : (moves : Moves) → AreStepsBefore moves [] 0 0
steps_none moves = record { ordered = search rules; before = λ s h. absurd (omega (arith, h.1)); all = λ s x t b h. none s x t b }
  where
    none : (s : ℕ) (x : Symbol) (t : ℕ) → ComesBefore s x.number 0 0 → Contains {X = Step} [] (record { from = s; symbol = x; to = t })
    none s x t (inl lt) = absurd (omega arith)
    none s x t (inr (same, lt)) = absurd (omega arith)

-- there is no move by the number
pub steps_without : (moves : Moves) (steps : List Step) (state number : ℕ) → move_at moves state number ≡ None → AreStepsBefore moves steps state number → AreStepsBefore moves steps state (number + 1)
steps_without moves steps state number none a = record {
  ordered = a.ordered;
  before = λ s h. let b = a.before s h in (before_more s.from s.symbol.number state number b.0, b.1);
  all = λ s x t b h. all s x t h (before_next s x.number state number b);
}
  where
    all : (s : ℕ) (x : Symbol) (t : ℕ) → move_at moves s x.number ≡ Some t → ComesBefore s x.number state number ⊎ ((s ≡ state) × (x.number ≡ number)) → Contains steps (record { from = s; symbol = x; to = t })
    all s x t h (inl earlier) = a.all s x t earlier h
    all s x t h (inr (here, number_is)) =
        let same : move_at moves s x.number ≡ move_at moves state number = ap (λ i. move_at moves i x.number) here ∙ ap (λ n. move_at moves state n) number_is in
        absurd (cc)

-- there is one
pub steps_with : (moves : Moves) (steps : List Step) (state number to : ℕ) → move_at moves state number ≡ Some to → AreStepsBefore moves steps state number → AreStepsBefore moves (steps ++ step_by state number to ∷ []) state (number + 1)
steps_with moves steps state number to is a = record {
  ordered = all_pairs_push StepBefore steps (step_by state number to) a.ordered (λ k d lt. (a.before (get_or steps k d) (Contains-get_or steps k d lt)).0);
  before = λ s h. before s (contains_cases steps (step_by state number to) s h);
  all = λ s x t b h. all s x t h (before_next s x.number state number b);
}
  where
    step : Step
    step = step_by state number to

    before : (s : Step) → Contains steps s ⊎ (step ≡ s) → ComesBefore s.from s.symbol.number state (number + 1) × (move_at moves s.from s.symbol.number ≡ Some s.to)
    before s (inl h) = let b = a.before s h in (before_more s.from s.symbol.number state number b.0, b.1)
    before s (inr e) =
        subst (λ (s : Step). ComesBefore s.from s.symbol.number state (number + 1) × (move_at moves s.from s.symbol.number ≡ Some s.to)) e (inr (refl, omega arith), is)

    all : (s : ℕ) (x : Symbol) (t : ℕ) → move_at moves s x.number ≡ Some t → ComesBefore s x.number state number ⊎ ((s ≡ state) × (x.number ≡ number)) → Contains (steps ++ step ∷ []) (record { from = s; symbol = x; to = t })
    all s x t h (inl earlier) = Contains-append_left steps (step ∷ []) (record { from = s; symbol = x; to = t }) (a.all s x t earlier h)
    all s x t h (inr (here, number_is)) =
        let same : move_at moves s x.number ≡ move_at moves state number = ap (λ i. move_at moves i x.number) here ∙ ap (λ n. move_at moves state n) number_is in
        let to_is : to ≡ t = cc in
        let by_state : step ≡ step_by s number to = ap (λ (i : ℕ). step_by i number to) (sym here) in
        let by_number : step_by s number to ≡ step_by s x.number to = ap (λ (n : ℕ). step_by s n to) (sym number_is) in
        let by_to : step_by s x.number to ≡ step_by s x.number t = ap (λ (i : ℕ). step_by s x.number i) to_is in
        subst (λ (s : Step). Contains (steps ++ step ∷ []) s) (by_state ∙ by_number ∙ by_to) (Contains-push steps step)

-- all symbols are past
pub steps_next : (moves : Moves) (steps : List Step) (state symbols : ℕ) → length (get_or moves state []) ≤ symbols → AreStepsBefore moves steps state symbols → AreStepsBefore moves steps (state + 1) 0
steps_next moves steps state symbols long a = record {
  ordered = a.ordered;
  before = λ s h. let b = a.before s h in (before s.from s.symbol.number b.0, b.1);
  all = λ s x t b h. a.all s x t (earlier s x.number t h b) h;
}
  where
    before : (s x : ℕ) → ComesBefore s x state symbols → ComesBefore s x (state + 1) 0
    before s x (inl lt) = inl (omega arith)
    before s x (inr (same, lt)) = inl (omega arith)

    within : (x t : ℕ) → move_at moves state x ≡ Some t → (x < symbols) ⊎ (symbols ≤ x) → x < symbols
    within x t h (inl lt) = lt
    within x t h (inr le) =
        let none : move_at moves state x ≡ None = get_or_past (get_or moves state []) x None (omega (arith, long, le)) in
        absurd (cc)

    earlier_by : (s x t : ℕ) → move_at moves s x ≡ Some t → (s ≡ state) ⊎ (s < state) → ComesBefore s x state symbols
    earlier_by s x t h (inl same) =
        inr (same, within x t (ap (λ i. move_at moves i x) (sym same) ∙ h) (cases_lt x symbols))
    earlier_by s x t h (inr less) = inl less

    earlier : (s x t : ℕ) → move_at moves s x ≡ Some t → ComesBefore s x (state + 1) 0 → ComesBefore s x state symbols
    earlier s x t h (inl less) = earlier_by s x t h (eq-or-lt_of_le {n = s} {m = state} (omega arith))
    earlier s x t h (inr (same, none)) = absurd (omega arith)

-- the steps are all moves
pub steps_all : (moves : Moves) (steps : List Step) (states : ℕ) → states ≡ length moves → AreStepsBefore moves steps states 0 → (s : ℕ) (x : Symbol) (t : ℕ) → Contains steps (record { from = s; symbol = x; to = t }) ↔ (move_at moves s x.number ≡ Some t)
steps_all moves steps states long a s x t =
    (λ h. (a.before (record { from = s; symbol = x; to = t }) h).1, λ h. a.all s x t (inl (omega (arith, moves_from moves s x.number t h, long))) h)
