-- What is gained by weights is the weight, and with a reward where a free weekend ends that with one for each of them.
use Rattle.std.proofs.Common.{◌≡◌, ℕ, suc, ◌+◌, ◌*◌, ◌%◌, List, [], ◌∷◌, length, refl, ap, sym, ◌∙◌, arith, pos, ℤ, Bool, true, false, cond, ◌&&◌, ◌==◌, count_by}
use Rattle.std.specs.Prelude.{nat_lt, ◌+ℤ◌}
use Rattle.std.specs.List.{range_with_len}
use Rattle.std.proofs.Math.Nat.{mul-add}
use Rattle.std.proofs.lemmas.Int.{ints}
use Rattle.std.proofs.lemmas.Bool.{lt-ltb}
use Rattle.std.proofs.lemmas.Bool.Decides.{nat_tests}
use Rattle.rwsp_terms.specs.declared.data.Symbol.{Symbol}
use Rattle.rwsp_terms.specs.declared.data.Weight.{Weight}
use Rattle.rwsp_terms.specs.Instance.{Instance}
use Rattle.rwsp_terms.proofs.Counting.{count_next, count_same}
use Rattle.refutation_terms.specs.Word.{weight}
use Rattle.refutation_terms.specs.FreeWeekends.{is_off_at, is_free_weekend, free_weekends, free_weight}
use Rattle.refutation_terms.proofs.Turning.{count_shift}
use Rattle.clean_words.specs.Courses.{gained}
use Rattle.clean_words.specs.Gains.{ends_free, reward_behind, free_gain}

-- how many free weekends end in a word, from a day on, where the day before is off or not
abbrev ended : ℕ → Bool → List Symbol → ℕ
ended day behind_off [] = 0
ended day behind_off (x ∷ u) = cond (ends_free day behind_off x) 1 0 + ended (day + 1) (x.number == 0) u

-- a day 6 of the word, from a day on, that is off as the day behind it
abbrev begins : ℕ → List Symbol → ℕ → Bool
begins day u k = ((day + k) % 7 == 5) && nat_lt (k + 1) (length u) && is_off_at u k && is_off_at u (k + 1)

rewarded : (reward : ℕ) (b : Bool) → cond b reward 0 ≡ reward * cond b 1 0
rewarded reward true = omega arith
rewarded reward false = omega arith

-- what a word gains from a day on is its weight, with the reward for each of these
gained_free : (P : Instance) (y : List Weight) (p reward day : ℕ) (behind_off : Bool) (u : List Symbol) → gained (free_gain y p P.days reward) day behind_off u ≡ weight P y (p + day) u +ℤ pos (reward * ended day behind_off u)
gained_free P y p reward day behind_off [] = let e : reward * 0 ≡ 0 = omega arith in omega (arith, ints, e)
gained_free P y p reward day behind_off (x ∷ u) =
    let next : p + (day + 1) ≡ p + day + 1 = omega arith in
    let rest : gained (free_gain y p P.days reward) (day + 1) (x.number == 0) u ≡ weight P y (p + day + 1) u +ℤ pos (reward * ended (day + 1) (x.number == 0) u) =
    gained_free P y p reward (day + 1) (x.number == 0) u ∙ ap (λ (q : ℕ). weight P y q u +ℤ pos (reward * ended (day + 1) (x.number == 0) u)) next in
    let here : reward_behind reward day behind_off x ≡ reward * cond (ends_free day behind_off x) 1 0 = rewarded reward (ends_free day behind_off x) in
    let sum : reward * (cond (ends_free day behind_off x) 1 0 + ended (day + 1) (x.number == 0) u) ≡ reward * cond (ends_free day behind_off x) 1 0 + reward * ended (day + 1) (x.number == 0) u = mul-add reward (cond (ends_free day behind_off x) 1 0) (ended (day + 1) (x.number == 0) u) in
    omega (arith, ints, rest, here, sum)

four : (a b c d e f g h : Bool) → a ≡ e → b ≡ f → c ≡ g → d ≡ h → (a && b && c && d) ≡ (e && f && g && h)
four a b c d e f g h p q r s = cc

no_next : (a c d : Bool) → (a && false && c && d) ≡ false
no_next true c d = refl
no_next false c d = refl

a_next : (a c d : Bool) → (a && true && c && d) ≡ (a && (c && d))
a_next true c d = refl
a_next false c d = refl

lt_suc : (a b : ℕ) → nat_lt (suc a) (suc b) ≡ nat_lt a b
lt_suc a b = grind (arith, nat_tests)

week_ends : (day : ℕ) → ((day + 0) % 7 == 5) ≡ ((day + 1) % 7 == 6)
week_ends day = grind (arith, nat_tests)

-- the same day, counted from the day after the first
shifted : (day : ℕ) (x : Symbol) (u : List Symbol) (k : ℕ) → begins day (x ∷ u) (1 + k) ≡ begins (day + 1) u k
shifted day x u k =
    let same : day + (1 + k) ≡ day + 1 + k = omega arith in
    let one : 1 + k ≡ suc k = omega arith in
    let two : 1 + k + 1 ≡ suc (k + 1) = omega arith in
    let long : length (x ∷ u) ≡ suc (length u) = omega arith in
    four ((day + (1 + k)) % 7 == 5) (nat_lt (1 + k + 1) (length (x ∷ u))) (is_off_at (x ∷ u) (1 + k)) (is_off_at (x ∷ u) (1 + k + 1)) ((day + 1 + k) % 7 == 5) (nat_lt (k + 1) (length u)) (is_off_at u k) (is_off_at u (k + 1))
    (ap (λ (n : ℕ). n % 7 == 5) same)
    (ap (λ (n : ℕ). nat_lt n (length (x ∷ u))) two ∙ ap (λ (n : ℕ). nat_lt (suc (k + 1)) n) long ∙ lt_suc (k + 1) (length u))
    (ap (is_off_at (x ∷ u)) one)
    (ap (is_off_at (x ∷ u)) two)

-- those that begin on the first day, and those behind it
first_apart : (day : ℕ) (x : Symbol) (u : List Symbol) → count_by (begins day (x ∷ u)) (range_with_len 0 (length (x ∷ u))) ≡ cond (begins day (x ∷ u) 0) 1 0 + count_by (begins (day + 1) u) (range_with_len 0 (length u))
first_apart day x u =
    let long : length (x ∷ u) ≡ suc (length u) = omega arith in
    let next : count_by (begins day (x ∷ u)) (range_with_len 0 (suc (length u))) ≡ cond (begins day (x ∷ u) 0) 1 0 + count_by (begins day (x ∷ u)) (range_with_len (0 + 1) (length u)) = count_next (begins day (x ∷ u)) 0 (length u) in
    let one : 0 + 1 ≡ 1 + 0 = omega arith in
    let rest : count_by (begins day (x ∷ u)) (range_with_len (0 + 1) (length u)) ≡ count_by (begins (day + 1) u) (range_with_len 0 (length u)) =
    ap (λ (n : ℕ). count_by (begins day (x ∷ u)) (range_with_len n (length u))) one
    ∙ count_shift (begins day (x ∷ u)) 1 0 (length u)
    ∙ count_same (λ k. begins day (x ∷ u) (1 + k)) (begins (day + 1) u) 0 (length u) (λ k le lt. shifted day x u k) in
    ap (λ (n : ℕ). count_by (begins day (x ∷ u)) (range_with_len 0 n)) long ∙ next ∙ ap (λ (n : ℕ). cond (begins day (x ∷ u) 0) 1 0 + n) rest

-- a free weekend ends a day after it begins
ends_as_begins : (day : ℕ) (x : Symbol) (u : List Symbol) → count_by (begins day (x ∷ u)) (range_with_len 0 (length (x ∷ u))) ≡ ended (day + 1) (x.number == 0) u
ends_as_begins day x [] =
    let none : begins day (x ∷ []) 0 ≡ false = no_next ((day + 0) % 7 == 5) (is_off_at (x ∷ []) 0) (is_off_at (x ∷ []) 1) in
    first_apart day x [] ∙ ap (λ (b : Bool). cond b 1 0 + 0) none
ends_as_begins day x (y ∷ u) =
    let first : begins day (x ∷ y ∷ u) 0 ≡ ends_free (day + 1) (x.number == 0) y =
    four ((day + 0) % 7 == 5) (nat_lt 1 (length (x ∷ y ∷ u))) (x.number == 0) (y.number == 0) ((day + 1) % 7 == 6) true (x.number == 0) (y.number == 0) (week_ends day) (lt-ltb 1 (length (x ∷ y ∷ u)) (omega arith)) refl refl
    ∙ a_next ((day + 1) % 7 == 6) (x.number == 0) (y.number == 0) in
    first_apart day x (y ∷ u)
    ∙ ap (λ (b : Bool). cond b 1 0 + count_by (begins (day + 1) (y ∷ u)) (range_with_len 0 (length (y ∷ u)))) first
    ∙ ap (λ (n : ℕ). cond (ends_free (day + 1) (x.number == 0) y) 1 0 + n) (ends_as_begins (day + 1) y u)

all_ended : (u : List Symbol) → ended 0 false u ≡ free_weekends u
all_ended [] = refl
all_ended (x ∷ u) =
    let none : 0 + ended (0 + 1) (x.number == 0) u ≡ ended (0 + 1) (x.number == 0) u = omega arith in
    none
    ∙ sym (ends_as_begins 0 x u)
    ∙ count_same (begins 0 (x ∷ u)) (is_free_weekend (x ∷ u)) 0 (length (x ∷ u))
    (λ k le lt.
    let same : 0 + k ≡ k = omega arith in
    ap (λ (n : ℕ). (n % 7 == 5) && nat_lt (k + 1) (length (x ∷ u)) && is_off_at (x ∷ u) k && is_off_at (x ∷ u) (k + 1)) same)

-- a gain by which words weigh this
abbrev pub Weighs : (ℕ → Bool → Symbol → ℤ) → (List Symbol → ℤ) → Type 0
Weighs gain weighs = (u : List Symbol) → gained gain 0 false u ≡ weighs u

pub free_weighs : (P : Instance) (y : List Weight) (p reward : ℕ) → Weighs (free_gain y p P.days reward) (free_weight P y reward p)
free_weighs P y p reward u =
    let here : p + 0 ≡ p = omega arith in
    gained_free P y p reward 0 false u
    ∙ ap (λ (q : ℕ). weight P y q u +ℤ pos (reward * ended 0 false u)) here
    ∙ ap (λ (n : ℕ). weight P y p u +ℤ pos (reward * n)) (all_ended u)
