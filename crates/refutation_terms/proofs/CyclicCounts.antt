-- Counts round a cycle: how many runs a test has there, against how often it passes. A test goes round by L where it
-- says the same L places later.
use Rattle.std.proofs.Common.{◌≡◌, ◌⊎◌, ℕ, zero, suc, ◌+◌, ◌-◌, ◌*◌, ◌<◌, ◌≤◌, refl, ap, sym, ◌∙◌, arith, inl, inr, Bool, true, false, cond, ◌&&◌, ◌||◌, not, count_by}
use Rattle.std.specs.List.{range_with_len}
use Rattle.std.proofs.lemmas.Bool.{cases_Bool, both_ways, or_left, or_right, or_cases, and_parts, and_from, not-true, not_from_false, false_from_ne_true}
use Rattle.std.proofs.Math.Nat.{eq-or-lt_of_le}
use Rattle.rwsp_terms.proofs.Counting.{count_next, count_same, count_mono}
use Rattle.refutation_terms.proofs.Turning.{count_shift, count_period}

abbrev pub GoesRound : ℕ → (ℕ → Bool) → Type 0
GoesRound L f = (i : ℕ) → f (i + L) ≡ f i

-- how often the test passes, once round
abbrev pub counted : ℕ → (ℕ → Bool) → ℕ
counted L f = count_by f (range_with_len 0 L)

-- the test doesn't pass here, and passes at the next place: a run begins there
abbrev pub rises : (ℕ → Bool) → ℕ → Bool
rises f i = f (i + 1) && not (f i)

-- the test passes at n places in a row
abbrev pub InARow : (ℕ → Bool) → ℕ → ℕ → Type 0
InARow f q n = (i : ℕ) → i < n → f (q + i) ≡ true

-- a run that isn't as long as a goes on
abbrev pub RunsOn : (ℕ → Bool) → ℕ → Type 0
RunsOn f a = (q n : ℕ) → f q ≡ false → InARow f (q + 1) (suc n) → suc n < a → f (q + 1 + suc n) ≡ true

-- the test passes at one of n places
abbrev near : (ℕ → Bool) → ℕ → ℕ → Bool
near f zero q = false
near f (suc n) q = f q || near f n (q + 1)

-- a test that says the same everywhere
count_fixed : (b : Bool) (a n : ℕ) → count_by (λ i. b) (range_with_len a n) ≡ n * cond b 1 0
count_fixed b a zero = omega arith
count_fixed b a (suc n) =
    let more : count_by (λ i. b) (range_with_len (a + 1) n) ≡ n * cond b 1 0 = count_fixed b (a + 1) n in
    let sum : suc n * cond b 1 0 ≡ cond b 1 0 + n * cond b 1 0 = omega arith in
    omega (arith, count_next (λ i. b) a n)

-- two counts together are two others, where they are at each place
count_pairs : (f g h k : ℕ → Bool) (a n : ℕ) → ((i : ℕ) → cond {A = ℕ} (f i) 1 0 + cond (g i) 1 0 ≡ cond (h i) 1 0 + cond (k i) 1 0) → count_by f (range_with_len a n) + count_by g (range_with_len a n) ≡ count_by h (range_with_len a n) + count_by k (range_with_len a n)
count_pairs f g h k a zero same = refl
count_pairs f g h k a (suc n) same =
    let here : cond {A = ℕ} (f a) 1 0 + cond (g a) 1 0 ≡ cond (h a) 1 0 + cond (k a) 1 0 = same a in
    let more : count_by f (range_with_len (a + 1) n) + count_by g (range_with_len (a + 1) n) ≡ count_by h (range_with_len (a + 1) n) + count_by k (range_with_len (a + 1) n) = count_pairs f g h k (a + 1) n same in
    omega (arith, count_next f a n, count_next g a n, count_next h a n, count_next k a n)

-- a count round the cycle begins anywhere
pub count_later : (L : ℕ) (f : ℕ → Bool) → GoesRound L f → (b : ℕ) → counted L (λ i. f (i + b)) ≡ counted L f
count_later L f round b =
    let e : b ≡ b + 0 = omega arith in
    count_same (λ i. f (i + b)) (λ i. f (b + i)) 0 L (λ i le lt. let d : i + b ≡ b + i = omega arith in ap f d)
    ∙ sym (count_shift f b 0 L) ∙ ap (λ a. count_by f (range_with_len a L)) (sym e) ∙ count_period f L round b

rises_round : (L : ℕ) (f : ℕ → Bool) → GoesRound L f → GoesRound L (rises f)
rises_round L f round i =
    let e : i + L + 1 ≡ i + 1 + L = omega arith in
    ap (λ b. b && not (f (i + L))) (ap f e ∙ round (i + 1)) ∙ ap (λ b. f (i + 1) && not b) (round i)

near_round : (L : ℕ) (f : ℕ → Bool) → GoesRound L f → (n : ℕ) → GoesRound L (near f n)
near_round L f round zero i = refl
near_round L f round (suc n) i =
    let e : i + L + 1 ≡ i + 1 + L = omega arith in
    ap (λ b. b || near f n (i + L + 1)) (round i) ∙ ap (λ b. f i || b) (ap (near f n) e ∙ near_round L f round n (i + 1))

-- one place more
near_next : (L : ℕ) (f : ℕ → Bool) → GoesRound L f → (n : ℕ) → counted L (near f (suc n)) + counted L (λ i. f i && near f n (i + 1)) ≡ counted L f + counted L (near f n)
near_next L f round n =
    count_pairs (near f (suc n)) (λ i. f i && near f n (i + 1)) f (λ i. near f n (i + 1)) 0 L (λ i. either_both (f i) (near f n (i + 1)))
    ∙ ap (λ c. counted L f + c) (count_later L (near f n) (near_round L f round n) 1)
  where
    either_both : (b c : Bool) → cond {A = ℕ} (b || c) 1 0 + cond (b && c) 1 0 ≡ cond b 1 0 + cond c 1 0
    either_both true c = refl
    either_both false true = refl
    either_both false false = refl

-- places near one that passes are at most n for each
near_most : (L : ℕ) (f : ℕ → Bool) → GoesRound L f → (n : ℕ) → counted L (near f n) ≤ n * counted L f
near_most L f round zero = omega (arith, count_fixed false 0 L)
near_most L f round (suc n) =
    let sum : suc n * counted L f ≡ counted L f + n * counted L f = omega arith in
    omega (arith, near_next L f round n, near_most L f round n)

-- and n for each, where no two that pass are so close
near_least : (L : ℕ) (f : ℕ → Bool) → GoesRound L f → (n : ℕ) → ((m q : ℕ) → m < n → q < L → f q ≡ true → near f m (q + 1) ≡ true → ⊥) → n * counted L f ≤ counted L (near f n)
near_least L f round zero apart = omega arith
near_least L f round (suc n) apart =
    let twice : ℕ → Bool = λ i. f i && near f n (i + 1) in
    let none : counted L twice ≡ counted L (λ i. false) =
    count_same twice (λ i. false) 0 L
    (λ i le lt. false_from_ne_true (twice i) (λ e. let both = and_parts (f i) (near f n (i + 1)) e in apart n i (omega arith) (omega (arith, lt)) both.0 both.1)) in
    let more : n * counted L f ≤ counted L (near f n) = near_least L f round n (λ m q lt. apart m q (omega (arith, lt))) in
    let sum : suc n * counted L f ≡ counted L f + n * counted L f = omega arith in
    omega (arith, near_next L f round n, count_fixed false 0 L)

near_place : (f : ℕ → Bool) (n q : ℕ) → near f n q ≡ true → (i : ℕ) × (i < n) × (f (q + i) ≡ true)
near_place f zero q e = absurd (cc)
near_place f (suc n) q e =
    elim (or_cases (f q) (near f n (q + 1)) e) [
      | inl here ↦ let d : q + 0 ≡ q = omega arith in (0, omega arith, ap f d ∙ here)
      | inr later ↦
          let there = near_place f n (q + 1) later in
          let d : q + suc there.0 ≡ q + 1 + there.0 = omega arith in
          (suc there.0, omega (arith, there.1), ap f d ∙ there.2)
    ]

risen : (f : ℕ → Bool) (q : ℕ) → rises f q ≡ true → (f q ≡ false) × (f (q + 1) ≡ true)
risen f q up = let both = and_parts (f (q + 1)) (not (f q)) up in (not-true (f q) both.1, both.0)

-- where the test passes, it rises a little before or passes all the way
rises_or_stays : (f : ℕ → Bool) (n q : ℕ) → f (q + n) ≡ true → (near (rises f) n q ≡ true) ⊎ InARow f q (suc n)
rises_or_stays f zero q high = inr (λ i lt. let e : q + i ≡ q + zero = omega (arith, lt) in ap f e ∙ high)
rises_or_stays f (suc n) q high =
    let d : q + 1 + n ≡ q + suc n = omega arith in
    elim (rises_or_stays f n (q + 1) (ap f d ∙ high)) [
      | inl later ↦ inl (or_right (rises f q) (near (rises f) n (q + 1)) later)
      | inr on ↦ begins (on 0 (omega arith)) on (cases_Bool (f q))
    ]
  where
    begins : f (q + 1 + 0) ≡ true → InARow f (q + 1) (suc n) → (f q ≡ true) ⊎ (f q ≡ false) → (near (rises f) (suc n) q ≡ true) ⊎ InARow f q (suc (suc n))
    begins next on (inl here) = inr (λ i lt. from_next i lt)
      where
        from_next : (i : ℕ) → i < suc (suc n) → f (q + i) ≡ true
        from_next zero lt = let e : q + zero ≡ q = omega arith in ap f e ∙ here
        from_next (suc i) lt = let e : q + suc i ≡ q + 1 + i = omega arith in ap f e ∙ on i (omega (arith, lt))
    begins next on (inr low) =
        let e : q + 1 + 0 ≡ q + 1 = omega arith in
        inl (or_left (rises f q) (near (rises f) n (q + 1)) (and_from (f (q + 1)) (not (f q)) (sym (ap f e) ∙ next) (not_from_false (f q) low)))

-- runs of at most M places: M places for each run are enough
pub runs_most : (L M : ℕ) (f : ℕ → Bool) → GoesRound L f → ((q : ℕ) → q < L → InARow f q (suc M) → ⊥) → counted L f ≤ M * counted L (rises f)
runs_most L M f round short =
    let fewer : counted L (λ i. f (i + M)) ≤ counted L (near (rises f) M) =
    count_mono (λ i. f (i + M)) (near (rises f) M) 0 L
    (λ i le lt high. elim (rises_or_stays f M i high) [
      | inl up ↦ up
      | inr on ↦ absurd (short i (omega (arith, lt)) on)
    ]) in
    omega (arith, count_later L f round M, near_most L (rises f) (rises_round L f round) M)

-- from where it rises it passes at a places
reaches : (f : ℕ → Bool) (a q : ℕ) → RunsOn f a → rises f q ≡ true → (n : ℕ) → n ≤ a → InARow f (q + 1) n
reaches f a q on up zero le = λ i lt. absurd (omega (arith, lt))
reaches f a q on up (suc n) le =
    let more = reaches f a q on up n (omega (arith, le)) in
    λ i lt. elim (eq-or-lt_of_le (let small : i ≤ n = omega (arith, lt) in small)) [
      | inl e ↦ ap (λ k. f (q + 1 + k)) e ∙ last n more le
      | inr less ↦ more i less
    ]
  where
    last : (n : ℕ) → InARow f (q + 1) n → suc n ≤ a → f (q + 1 + n) ≡ true
    last zero more le = let e : q + 1 + zero ≡ q + 1 = omega arith in ap f e ∙ (risen f q up).1
    last (suc n) more le = on q n (risen f q up).0 more (omega (arith, le))

-- runs of at least a places: there are a places for each
pub runs_least : (L a : ℕ) (f : ℕ → Bool) → GoesRound L f → (0 < L → RunsOn f a) → a * counted L (rises f) ≤ counted L f
runs_least L a f round on =
    let fewer : counted L (near (rises f) a) ≤ counted L (λ i. f (i + a)) =
    count_mono (near (rises f) a) (λ i. f (i + a)) 0 L
    (λ i le lt e.
    let up = near_place (rises f) a i e in
    let d : i + a ≡ i + up.0 + 1 + (a - (up.0 + 1)) = omega (arith, up.1) in
    ap f d ∙ reaches f a (i + up.0) (on (omega (arith, lt))) up.2 a (omega arith) (a - (up.0 + 1)) (omega (arith, up.1))) in
    let least : a * counted L (rises f) ≤ counted L (near (rises f) a) =
    near_least L (rises f) (rises_round L f round) a
    (λ m q lt less here later.
    let up = near_place (rises f) m (q + 1) later in
    both_ways (f (q + 1 + up.0)) (risen f (q + 1 + up.0) up.2).0 (reaches f a q (on (omega (arith, less))) here m (omega (arith, lt)) up.0 up.1)) in
    omega (arith, count_later L f round a)

-- a test has as many runs as its opposite
pub runs_between : (L : ℕ) (f : ℕ → Bool) → GoesRound L f → counted L (rises (λ i. not (f i))) ≡ counted L (rises f)
runs_between L f round =
    omega (
      arith,
      count_later L f round 1,
      count_pairs (rises f) f (rises (λ i. not (f i))) (λ i. f (i + 1)) 0 L (λ i. one_each (f i) (f (i + 1))),
    )
  where
    one_each : (b c : Bool) → cond {A = ℕ} (c && not b) 1 0 + cond b 1 0 ≡ cond (not c && not (not b)) 1 0 + cond c 1 0
    one_each true true = refl
    one_each true false = refl
    one_each false true = refl
    one_each false false = refl

-- and passes or doesn't at each place
pub count_rest : (L : ℕ) (f : ℕ → Bool) → counted L f + counted L (λ i. not (f i)) ≡ L
count_rest L f =
    omega (arith, count_pairs f (λ i. not (f i)) (λ i. true) (λ i. false) 0 L (λ i. one_of_two (f i)), count_fixed true 0 L, count_fixed false 0 L)
  where
    one_of_two : (b : Bool) → cond {A = ℕ} b 1 0 + cond (not b) 1 0 ≡ 1 + 0
    one_of_two true = refl
    one_of_two false = refl
