-- The free weekends of rosters and of words that go through one a number of times, and why leaves of free logs leave no
-- roster.
use Rattle.std.proofs.Common.{◌≡◌, ◌⊎◌, ℕ, zero, suc, ◌+◌, ◌*◌, ◌%◌, ◌<◌, ◌≤◌, List, length, get_or, refl, ap, sym, ◌∙◌, subst, arith, inl, inr, Bool, true, false, cond, IsTrue, ◌&&◌, ◌==◌, count_by, pos, ℤ, mul-le-mul_left}
use Rattle.std.specs.Prelude.{Some, nat_lt, ◌+ℤ◌, ◌*ℤ◌, ◌≤ℤ◌}
use Rattle.std.specs.List.{range_with_len}
use Rattle.std.proofs.lemmas.Int.{ints}
use Rattle.std.proofs.lemmas.Nat.{mod-mul-add}
use Rattle.std.proofs.lemmas.Bool.{eqb-true, cases_Bool, lt-ltb}
use Rattle.std.proofs.Math.Nat.{add-mod_right}
use Rattle.std.proofs.Math.IntN.{zero-*ℤ}
use Rattle.rwsp_terms.specs.declared.data.Symbol.{Symbol}
use Rattle.rwsp_terms.specs.declared.data.Weight.{Weight}
use Rattle.rwsp_terms.specs.Instance.{Instance, cells, off_symbol}
use Rattle.rwsp_terms.specs.Window.{cell, window}
use Rattle.rwsp_terms.specs.Roster.{IsRoster}
use Rattle.rwsp_terms.proofs.Windows.{length-window, get_or-window}
use Rattle.rwsp_terms.proofs.Counting.{count_next, count_same, count_mono}
use Rattle.refutation_terms.specs.Word.{Domains, Within, weight, total}
use Rattle.refutation_terms.specs.FreeWeekends.{is_off_at, is_free_weekend, free_weekends, free_weight}
use Rattle.refutation_terms.specs.FewLeaf.{may_be_free, HasTooFewFree}
use Rattle.refutation_terms.specs.WordsLeaf.{owed}
use Rattle.refutation_terms.specs.Laws.{MeetsWeighedDays, FreeWeekendsAreWeeks, TurnsHaveFreeWeekends}
use Rattle.refutation_terms.proofs.Tests.{both, left_of, right_of}
use Rattle.refutation_terms.proofs.Sums.{times_more}
use Rattle.refutation_terms.proofs.Turning.{count_shift, count_period, cell-within}
use Rattle.refutation_terms.proofs.Weighing.{window_weighs_enough}

-- a count over one range and then the next
count_range : (f : ℕ → Bool) (a m n : ℕ) → count_by f (range_with_len a (m + n)) ≡ count_by f (range_with_len a m) + count_by f (range_with_len (a + m) n)
count_range f a zero n =
    let e : zero + n ≡ n = omega arith in let d : a ≡ a + zero = omega arith in
    let whole : count_by f (range_with_len a (zero + n)) ≡ count_by f (range_with_len (a + zero) n) = ap (λ k. count_by f (range_with_len a k)) e ∙ ap (λ b. count_by f (range_with_len b n)) d in
    let none : count_by f (range_with_len a zero) ≡ 0 = refl in
    omega arith
count_range f a (suc m) n =
    let e : suc m + n ≡ suc (m + n) = omega arith in
    let d : a + 1 + m ≡ a + suc m = omega arith in
    let more : count_by f (range_with_len (a + 1) (m + n)) ≡ count_by f (range_with_len (a + 1) m) + count_by f (range_with_len (a + 1 + m) n) = count_range f (a + 1) m n in
    let there : count_by f (range_with_len (a + 1 + m) n) ≡ count_by f (range_with_len (a + suc m) n) = ap (λ b. count_by f (range_with_len b n)) d in
    let whole : count_by f (range_with_len a (suc m + n)) ≡ cond (f a) 1 0 + count_by f (range_with_len (a + 1) (m + n)) = ap (λ k. count_by f (range_with_len a k)) e ∙ count_next f a (m + n) in
    let front : count_by f (range_with_len a (suc m)) ≡ cond (f a) 1 0 + count_by f (range_with_len (a + 1) m) = count_next f a m in
    omega arith

-- a count over c periods is c times that over one
count_periods : (f : ℕ → Bool) (m : ℕ) → ((i : ℕ) → f (i + m) ≡ f i) → (c : ℕ) → count_by f (range_with_len 0 (c * m)) ≡ c * count_by f (range_with_len 0 m)
count_periods f m h zero =
    let e : zero * m ≡ 0 = omega arith in
    let d : 0 ≡ zero * count_by f (range_with_len 0 m) = omega arith in
    ap (λ k. count_by f (range_with_len 0 k)) e ∙ d
count_periods f m h (suc c) =
    let e : suc c * m ≡ c * m + m = omega arith in
    let z : 0 + c * m ≡ c * m = omega arith in
    let parts : count_by f (range_with_len 0 (suc c * m)) ≡ count_by f (range_with_len 0 (c * m)) + count_by f (range_with_len (0 + c * m) m) = ap (λ k. count_by f (range_with_len 0 k)) e ∙ count_range f 0 (c * m) m in
    let last : count_by f (range_with_len (0 + c * m) m) ≡ count_by f (range_with_len 0 m) = count_period f m h (0 + c * m) in
    let more : count_by f (range_with_len 0 (c * m)) ≡ c * count_by f (range_with_len 0 m) = count_periods f m h c in
    let sum : suc c * count_by f (range_with_len 0 m) ≡ c * count_by f (range_with_len 0 m) + count_by f (range_with_len 0 m) = omega arith in
    omega arith

-- day 6 alone is counted of the seven days of a week
on_day_6 : (h : ℕ → Bool) (m i : ℕ) → i < 7 → (((m * 7 + i) % 7 == 5) && h (m * 7 + i)) ≡ ((i == 5) && h (m * 7 + 5))
on_day_6 h m i lt = ap (λ r. (r == 5) && h (m * 7 + i)) (mod-mul-add m 7 i lt) ∙ picked (cases_Bool (i == 5))
  where
    picked : ((i == 5) ≡ true) ⊎ ((i == 5) ≡ false) → ((i == 5) && h (m * 7 + i)) ≡ ((i == 5) && h (m * 7 + 5))
    picked (inl e) = ap (λ z. (i == 5) && h (m * 7 + z)) (eqb-true i 5 e)
    picked (inr e) = ap (λ b. b && h (m * 7 + i)) e ∙ sym (ap (λ b. b && h (m * 7 + 5)) e)

one_of_seven : (b : Bool) → count_by (λ i. (i == 5) && b) (range_with_len 0 7) ≡ cond b 1 0
one_of_seven true = refl
one_of_seven false = refl

in_one_week : (h : ℕ → Bool) (m : ℕ) → count_by (λ k. (k % 7 == 5) && h k) (range_with_len (m * 7) 7) ≡ cond (h (m * 7 + 5)) 1 0
in_one_week h m =
    let e : m * 7 ≡ m * 7 + 0 = omega arith in
    ap (λ a. count_by (λ k. (k % 7 == 5) && h k) (range_with_len a 7)) e
    ∙ count_shift (λ k. (k % 7 == 5) && h k) (m * 7) 0 7
    ∙ count_same (λ i. ((m * 7 + i) % 7 == 5) && h (m * 7 + i)) (λ i. (i == 5) && h (m * 7 + 5)) 0 7 (λ i le lt. on_day_6 h m i (omega (arith, lt)))
    ∙ one_of_seven (h (m * 7 + 5))

week_by_week : (h : ℕ → Bool) (m : ℕ) → count_by (λ k. (k % 7 == 5) && h k) (range_with_len 0 (m * 7)) ≡ count_by (λ i. h (i * 7 + 5)) (range_with_len 0 m)
week_by_week h zero = let e : zero * 7 ≡ 0 = omega arith in ap (λ n. count_by (λ k. (k % 7 == 5) && h k) (range_with_len 0 n)) e
week_by_week h (suc m) =
    let e : suc m * 7 ≡ m * 7 + 7 = omega arith in
    let d : suc m ≡ m + 1 = omega arith in
    let z : 0 + m * 7 ≡ m * 7 = omega arith in
    let f : ℕ → Bool = λ k. (k % 7 == 5) && h k in
    let t : ℕ → Bool = λ i. h (i * 7 + 5) in
    let parts : count_by f (range_with_len 0 (suc m * 7)) ≡ count_by f (range_with_len 0 (m * 7)) + count_by f (range_with_len (0 + m * 7) 7) = ap (λ n. count_by f (range_with_len 0 n)) e ∙ count_range f 0 (m * 7) 7 in
    let last : count_by f (range_with_len (0 + m * 7) 7) ≡ cond (h (m * 7 + 5)) 1 0 = ap (λ a. count_by f (range_with_len a 7)) z ∙ in_one_week h m in
    let more : count_by f (range_with_len 0 (m * 7)) ≡ count_by t (range_with_len 0 m) = week_by_week h m in
    let weeks : count_by t (range_with_len 0 (suc m)) ≡ count_by t (range_with_len 0 m) + count_by t (range_with_len (0 + m) 1) = ap (λ n. count_by t (range_with_len 0 n)) d ∙ count_range t 0 m 1 in
    let here : count_by t (range_with_len (0 + m) 1) ≡ cond (h (m * 7 + 5)) 1 0 + 0 = ap (λ a. count_by t (range_with_len a 1)) (let y : 0 + m ≡ m = omega arith in y) ∙ count_next t m 0 in
    omega arith

all_four : (a b c d : Bool) → (a && b && c && d) ≡ (a && (b && (c && d)))
all_four true true c d = refl
all_four true false c d = refl
all_four false b c d = refl

-- days 6 and 7 of a week are off
abbrev is_free_week : List Symbol → ℕ → Bool
is_free_week u i = is_off_at u (i * 7 + 5) && is_off_at u (i * 7 + 6)

-- the free weekends of whole weeks are weeks with both days off
weeks_of : (u : List Symbol) (m : ℕ) → length u ≡ m * 7 → free_weekends u ≡ count_by (λ i. is_off_at u (i * 7 + 5) && is_off_at u (i * 7 + 6)) (range_with_len 0 m)
weeks_of u m long =
    let h : ℕ → Bool = λ k. nat_lt (k + 1) (length u) && (is_off_at u k && is_off_at u (k + 1)) in
    count_same (is_free_weekend u) (λ k. (k % 7 == 5) && h k) 0 (length u) (λ k le lt. all_four (k % 7 == 5) (nat_lt (k + 1) (length u)) (is_off_at u k) (is_off_at u (k + 1)))
    ∙ ap (λ n. count_by (λ k. (k % 7 == 5) && h k) (range_with_len 0 n)) long
    ∙ week_by_week h m
    ∙ count_same (λ i. h (i * 7 + 5)) (λ i. is_off_at u (i * 7 + 5) && is_off_at u (i * 7 + 6)) 0 m
    (λ i le lt.
    let less : i < m = omega (arith, lt) in
    let inside : i * 7 + 5 + 1 < length u = omega (arith, less, long) in
    let next : i * 7 + 5 + 1 ≡ i * 7 + 6 = omega arith in
    ap (λ b. b && (is_off_at u (i * 7 + 5) && is_off_at u (i * 7 + 5 + 1))) (lt-ltb (i * 7 + 5 + 1) (length u) inside)
    ∙ ap (λ q. is_off_at u (i * 7 + 5) && is_off_at u q) next)

roster_weeks : (P : Instance) (s : List Symbol) → P.days ≡ 7 → IsRoster P s → length s ≡ P.weeks * 7
roster_weeks P s week roster = roster.long ∙ ap (λ d. P.weeks * d) week

pub free_weekends_weeks : FreeWeekendsAreWeeks
free_weekends_weeks P s week roster = weeks_of s P.weeks (roster_weeks P s week roster)

-- days 6 and 7 of a week of the endless roster are off
abbrev is_free_round : List Symbol → ℕ → Bool
is_free_round s i = ((cell s (i * 7 + 5)).number == 0) && ((cell s (i * 7 + 6)).number == 0)

free_round_period : (s : List Symbol) (weeks i : ℕ) → length s ≡ weeks * 7 → is_free_round s (i + weeks) ≡ is_free_round s i
free_round_period s weeks i long =
    let e : (i + weeks) * 7 + 5 ≡ i * 7 + 5 + weeks * 7 = omega arith in
    let d : (i + weeks) * 7 + 6 ≡ i * 7 + 6 + weeks * 7 = omega arith in
    let around : (k : ℕ) → cell s (k + weeks * 7) ≡ cell s k = λ k. ap (λ m. cell s (k + m)) (sym long) ∙ ap (λ r. get_or s r off_symbol) (add-mod_right k (length s)) in
    ap (λ q. ((cell s q).number == 0) && ((cell s ((i + weeks) * 7 + 6)).number == 0)) e
    ∙ ap (λ (z : Symbol). (z.number == 0) && ((cell s ((i + weeks) * 7 + 6)).number == 0)) (around (i * 7 + 5))
    ∙ ap (λ q. ((cell s (i * 7 + 5)).number == 0) && ((cell s q).number == 0)) d
    ∙ ap (λ (z : Symbol). ((cell s (i * 7 + 5)).number == 0) && (z.number == 0)) (around (i * 7 + 6))

-- a word with the cells of the endless roster has the free weekends of its weeks
weeks_round : (s u : List Symbol) (m : ℕ) → length u ≡ m * 7 → ((q : ℕ) → q < length u → get_or u q off_symbol ≡ cell s q) → free_weekends u ≡ count_by (is_free_round s) (range_with_len 0 m)
weeks_round s u m long same =
    weeks_of u m long
    ∙ count_same (λ i. is_off_at u (i * 7 + 5) && is_off_at u (i * 7 + 6)) (is_free_round s) 0 m
    (λ i le lt.
    let less : i < m = omega (arith, lt) in
    ap (λ (z : Symbol). (z.number == 0) && is_off_at u (i * 7 + 6)) (same (i * 7 + 5) (omega (arith, less, long)))
    ∙ ap (λ (z : Symbol). ((cell s (i * 7 + 5)).number == 0) && (z.number == 0)) (same (i * 7 + 6) (omega (arith, less, long))))

pub free_weekends_turns : TurnsHaveFreeWeekends
free_weekends_turns P s turns week roster =
    let len = turns * cells P in
    let long : length s ≡ P.weeks * 7 = roster_weeks P s week roster in
    let weeks : turns * (P.weeks * 7) ≡ turns * P.weeks * 7 = omega arith in
    let whole : length (window s 0 len) ≡ turns * P.weeks * 7 = length-window s 0 len ∙ ap (λ d. turns * (P.weeks * d)) week ∙ weeks in
    let start : (q : ℕ) → 0 + q ≡ q = λ q. omega arith in
    weeks_round s (window s 0 len) (turns * P.weeks) whole
    (λ q lt. get_or-window s 0 len q off_symbol (subst (λ n. q < n) (length-window s 0 len) lt) ∙ ap (cell s) (start q))
    ∙ count_periods (is_free_round s) P.weeks (λ i. free_round_period s P.weeks i long) turns
    ∙ ap (λ c. turns * c) (sym (weeks_round s s P.weeks long (λ q lt. sym (cell-within s q lt))))

-- a week of a roster within the domains that is free may be
free_may_be : (P : Instance) (D : Domains) (s : List Symbol) (q : ℕ) → q < cells P → Within P D s → is_off_at s q ≡ true → IsTrue (D q 0)
free_may_be P D s q inside w off = subst (λ x. IsTrue (D q x)) (eqb-true (get_or s q off_symbol).number 0 off) (w.each q inside)

apart : (goal free may : ℕ) → goal ≤ free → free ≤ may → may < goal → ⊥
apart goal free may a b c = omega (arith, a, b, c)

-- a leaf by few weeks leaves no roster with its goal
pub few_leaves_none : (P : Instance) (goal : ℕ) (D : Domains) (s : List Symbol) → P.days ≡ 7 → goal ≤ free_weekends s → Within P D s → HasTooFewFree P goal D → ⊥
few_leaves_none P goal D s week has w few =
    let free = is_free_week s in
    let fewer : count_by free (range_with_len 0 P.weeks) ≤ count_by (may_be_free D) (range_with_len 0 P.weeks) =
    count_mono free (may_be_free D) 0 P.weeks
    (λ i le lt off.
    let less : i < P.weeks = omega (arith, lt) in
    let inside : i * 7 + 6 < cells P = subst (λ d. i * 7 + 6 < P.weeks * d) (sym week) (omega (arith, less)) in
    let before : i * 7 + 5 < cells P = omega (arith, inside) in
    both (D (i * 7 + 5) 0) (D (i * 7 + 6) 0)
    (free_may_be P D s (i * 7 + 5) before w (left_of (is_off_at s (i * 7 + 5)) (is_off_at s (i * 7 + 6)) off))
    (free_may_be P D s (i * 7 + 6) inside w (right_of (is_off_at s (i * 7 + 5)) (is_off_at s (i * 7 + 6)) off))) in
    apart goal (count_by free (range_with_len 0 P.weeks)) (count_by (may_be_free D) (range_with_len 0 P.weeks))
    (subst (λ n. goal ≤ n) (free_weekends_weeks P s week w.is_roster) has) fewer few

-- c times a sum
times_sum : (c : ℕ) (t : ℤ) (n : ℕ) → pos c *ℤ (t +ℤ pos n) ≡ (pos c *ℤ t) +ℤ pos (c * n)
times_sum zero t n =
    let a : pos 0 *ℤ (t +ℤ pos n) ≡ pos 0 = zero-*ℤ (t +ℤ pos n) in
    let b : pos 0 *ℤ t ≡ pos 0 = zero-*ℤ t in
    let e : zero * n ≡ 0 = omega arith in
    omega (arith, ints)
times_sum (suc c) t n =
    let a : pos (suc c) *ℤ (t +ℤ pos n) ≡ (pos c *ℤ (t +ℤ pos n)) +ℤ (t +ℤ pos n) = times_more c (t +ℤ pos n) in
    let b : pos (suc c) *ℤ t ≡ (pos c *ℤ t) +ℤ t = times_more c t in
    let more : pos c *ℤ (t +ℤ pos n) ≡ (pos c *ℤ t) +ℤ pos (c * n) = times_sum c t n in
    let e : suc c * n ≡ c * n + n = omega arith in
    omega (arith, ints)

rewarded : (turns reward goal free : ℕ) → goal ≤ free → turns * (reward * goal) ≤ reward * (turns * free)
rewarded turns reward goal free le =
    let e : reward * (turns * free) ≡ turns * (reward * free) = omega arith in
    subst (λ n. turns * (reward * goal) ≤ n) (sym e) (mul-le-mul_left turns (mul-le-mul_left reward le))

enough : (a b : ℤ) (m n : ℕ) → a ≤ℤ b → m ≤ n → (a +ℤ pos m) ≤ℤ (b +ℤ pos n)
enough a b m n x y = omega (arith, ints)

-- where a roster has the goal and meets the day rules that the weights bear on, a word that goes through it `turns`
-- times weighs at least `turns` times what the demand and the goal ask for
pub window_is_free_enough : (P : Instance) (y : List Weight) (s : List Symbol) (turns reward goal : ℕ) → P.days ≡ 7 → IsRoster P s → MeetsWeighedDays P y s → goal ≤ free_weekends s → (pos turns *ℤ owed P (Some goal) y reward) ≤ℤ free_weight P y reward 0 (window s 0 (turns * cells P))
window_is_free_enough P y s turns reward goal week roster met has =
    let u = window s 0 (turns * cells P) in
    let free : free_weekends u ≡ turns * free_weekends s = free_weekends_turns P s turns week roster in
    let weighs : (pos turns *ℤ total P y) ≤ℤ weight P y 0 u = window_weighs_enough P y s 0 turns roster met in
    let both : ((pos turns *ℤ total P y) +ℤ pos (turns * (reward * goal))) ≤ℤ (weight P y 0 u +ℤ pos (reward * (turns * free_weekends s))) =
    enough (pos turns *ℤ total P y) (weight P y 0 u) (turns * (reward * goal)) (reward * (turns * free_weekends s)) weighs (rewarded turns reward goal (free_weekends s) has) in
    subst (λ z. z ≤ℤ (weight P y 0 u +ℤ pos (reward * free_weekends u))) (sym (times_sum turns (total P y) (reward * goal)))
    (subst (λ n. ((pos turns *ℤ total P y) +ℤ pos (turns * (reward * goal))) ≤ℤ (weight P y 0 u +ℤ pos (reward * n))) (sym free) both)
