-- What a window of whole turns weighs.
use Rattle.std.proofs.Common.{◌≡◌, ◌≢◌, ◌⊎◌, ℕ, zero, suc, ◌+◌, ◌-◌, ◌*◌, ◌%◌, ◌<◌, ◌≤◌, List, length, get_or, refl, ap, sym, ◌∙◌, subst, arith, inl, inr, ◌==◌, count_by, pos, negsuc, ℤ}
use Rattle.std.specs.Prelude.{◌<ℤ◌, ◌≤ℤ◌, ◌+ℤ◌, ◌*ℤ◌}
use Rattle.std.specs.List.{range_with_len}
use Rattle.std.specs.Int.{int_min}
use Rattle.std.proofs.lemmas.Int.{ints}
use Rattle.std.proofs.lemmas.Nat.{mod-mul-add}
use Rattle.std.proofs.Math.Nat.{add-mul-mod_self_right, add-mod_right, mod-eq_of_lt}
use Rattle.std.proofs.Math.IntN.{zero-*ℤ}
use Rattle.rwsp_terms.specs.declared.data.Symbol.{Symbol}
use Rattle.rwsp_terms.specs.declared.data.Weight.{Weight}
use Rattle.rwsp_terms.specs.Instance.{Instance, cells, shift_count, least, greatest, IsDay, off_symbol}
use Rattle.rwsp_terms.specs.Window.{cell, window}
use Rattle.rwsp_terms.specs.Roster.{IsRoster, weeks_with}
use Rattle.rwsp_terms.specs.Weights.{weight_at}
use Rattle.refutation_terms.specs.Word.{weight, int_sum_by, least_weight, total}
use Rattle.refutation_terms.specs.Laws.{MeetsWeighedDays, HasSingleNumbers}
use Rattle.refutation_terms.proofs.Counts.{in_column}
use Rattle.refutation_terms.proofs.Sums.{sum_same, sum_le, sum_shift, sum_periods, sum_rows, sum_exchange, sum_by_number, times_pos_le, min_between, min_same}

-- what weighs less than is owed doesn't weigh as much
pub too_light : (w t : ℤ) → w <ℤ t → t ≤ℤ w → ⊥
too_light w t a b = omega (arith, ints)

-- what the cell at a place weighs
abbrev pub cell_weight : Instance → List Weight → List Symbol → ℕ → ℤ
cell_weight P y s q = weight_at y (q % P.days + 1) (cell s q).number

pub weight-window : (P : Instance) (y : List Weight) (s : List Symbol) (p len : ℕ) → weight P y p (window s p len) ≡ int_sum_by (cell_weight P y s) (range_with_len p len)
weight-window P y s p zero = refl
weight-window P y s p (suc len) = ap (λ z. cell_weight P y s p +ℤ z) (weight-window P y s (p + 1) len)

-- a cell weighs the same in each turn
pub cell_weight-turn : (P : Instance) (y : List Weight) (s : List Symbol) (q : ℕ) → length s ≡ cells P → cell_weight P y s (q + cells P) ≡ cell_weight P y s q
cell_weight-turn P y s q long =
    let day : (q + P.weeks * P.days) % P.days ≡ q % P.days = add-mul-mod_self_right q P.weeks P.days in
    let place : (q + cells P) % length s ≡ q % length s = ap (λ m. (q + m) % length s) (sym long) ∙ add-mod_right q (length s) in
    ap (λ d. weight_at y (d + 1) (cell s (q + cells P)).number) day ∙ ap (λ r. weight_at y (q % P.days + 1) (get_or s r off_symbol).number) place

-- a cell of a week
cell_weight-week : (P : Instance) (y : List Weight) (s : List Symbol) (i k : ℕ) → length s ≡ cells P → i < P.weeks → k < P.days → cell_weight P y s (i * P.days + k) ≡ weight_at y (1 + k) (get_or s (i * P.days + k) off_symbol).number
cell_weight-week P y s i k long lt less =
    let day : (i * P.days + k) % P.days ≡ k = mod-mul-add i P.days k less in
    let next : k + 1 ≡ 1 + k = omega arith in
    let j : IsDay P (k + 1) = (omega arith, omega (arith, less)) in
    let back : k + 1 - 1 ≡ k = omega arith in
    let inside : i * P.days + (k + 1 - 1) < cells P = in_column P i (k + 1) lt j in
    let here : i * P.days + k < length s = omega (arith, long, inside, back) in
    let place : (i * P.days + k) % length s ≡ i * P.days + k = mod-eq_of_lt here in
    ap (λ d. weight_at y (d + 1) (cell s (i * P.days + k)).number) day ∙ ap (λ d. weight_at y d (cell s (i * P.days + k)).number) next ∙ ap (λ r. weight_at y (1 + k) (get_or s r off_symbol).number) place

-- what a symbol weighs on a day in all weeks of a roster
abbrev pub weeks_weight : Instance → List Weight → List Symbol → ℕ → ℕ → ℤ
weeks_weight P y s j x = weight_at y j x *ℤ pos (weeks_with P s x j)

abbrev pub day_weight : Instance → List Weight → List Symbol → ℕ → ℤ
day_weight P y s j = int_sum_by (λ x. weeks_weight P y s j x) (range_with_len 0 (shift_count P + 1))

column_weight : (P : Instance) (y : List Weight) (s : List Symbol) (k : ℕ) → IsRoster P s → k < P.days → int_sum_by (λ i. cell_weight P y s (i * P.days + k)) (range_with_len 0 P.weeks) ≡ day_weight P y s (1 + k)
column_weight P y s k roster less =
    let back : k ≡ 1 + k - 1 = omega arith in
    sum_same (λ i. cell_weight P y s (i * P.days + k)) (λ i. weight_at y (1 + k) (get_or s (i * P.days + k) off_symbol).number) 0 P.weeks (λ i le lt. cell_weight-week P y s i k roster.long (omega (arith, lt)) less)
    ∙ sum_by_number (λ x. weight_at y (1 + k) x) (λ i. (get_or s (i * P.days + k) off_symbol).number) (shift_count P + 1) 0 P.weeks
    (λ i le lt.
    let j : IsDay P (k + 1) = (omega arith, omega (arith, less)) in
    let inside : i * P.days + (k + 1 - 1) < cells P = in_column P i (k + 1) (omega (arith, lt)) j in
    let here : i * P.days + k < length s = let e : k + 1 - 1 ≡ k = omega arith in omega (arith, roster.long, inside, e) in
    let small : (get_or s (i * P.days + k) off_symbol).number ≤ shift_count P = roster.symbols (i * P.days + k) off_symbol here in
    omega (arith, small))
    ∙ ap (λ b. int_sum_by (λ x. weight_at y (1 + k) x *ℤ pos (count_by (λ i. (get_or s (i * P.days + b) off_symbol).number == x) (range_with_len 0 P.weeks))) (range_with_len 0 (shift_count P + 1))) back

-- a turn weighs what its days weigh
pub turn_weight : (P : Instance) (y : List Weight) (s : List Symbol) → IsRoster P s → int_sum_by (cell_weight P y s) (range_with_len 0 (cells P)) ≡ int_sum_by (day_weight P y s) (range_with_len 1 P.days)
turn_weight P y s roster =
    let none : 0 ≡ 0 * P.days = omega arith in
    ap (λ b. int_sum_by (cell_weight P y s) (range_with_len b (cells P))) none
    ∙ sum_rows (cell_weight P y s) P.days 0 P.weeks
    ∙ sum_exchange (λ i k. cell_weight P y s (i * P.days + k)) (range_with_len 0 P.weeks) (range_with_len 0 P.days)
    ∙ sum_same (λ k. int_sum_by (λ i. cell_weight P y s (i * P.days + k)) (range_with_len 0 P.weeks)) (λ k. day_weight P y s (1 + k)) 0 P.days (λ k le lt. column_weight P y s k roster (omega (arith, lt)))
    ∙ sym (sum_shift (day_weight P y s) 1 0 P.days)

-- a window of whole turns weighs `turns` times what the days weigh
pub turns_weight : (P : Instance) (y : List Weight) (s : List Symbol) (p turns : ℕ) → IsRoster P s → weight P y p (window s p (turns * cells P)) ≡ pos turns *ℤ int_sum_by (day_weight P y s) (range_with_len 1 P.days)
turns_weight P y s p turns roster =
    weight-window P y s p (turns * cells P)
    ∙ sum_periods (cell_weight P y s) (cells P) (λ q. cell_weight-turn P y s q roster.long) turns p
    ∙ ap (λ z. pos turns *ℤ z) (turn_weight P y s roster)

-- a weight is zero, or its day has one
weighs_or_not : (v : ℤ) → (v ≡ pos 0) ⊎ (v ≢ pos 0)
weighs_or_not (pos zero) = inl refl
weighs_or_not (pos (suc n)) = inr (λ e. cc)
weighs_or_not (negsuc n) = inr (λ e. cc)

min_zero : (v l c g : ℤ) → v ≡ pos 0 → int_min (v *ℤ l) (v *ℤ g) ≡ v *ℤ c
min_zero v l c g e =
    let x : v *ℤ l ≡ pos 0 = ap (λ z. z *ℤ l) e ∙ zero-*ℤ l in
    let u : v *ℤ g ≡ pos 0 = ap (λ z. z *ℤ g) e ∙ zero-*ℤ g in
    let w : v *ℤ c ≡ pos 0 = ap (λ z. z *ℤ c) e ∙ zero-*ℤ c in
    ap (λ z. int_min z (v *ℤ g)) x ∙ ap (λ z. int_min (pos 0) z) u ∙ min_same (pos 0) ∙ sym w

equal_le : (a b : ℤ) → a ≡ b → a ≤ℤ b
equal_le a b e = omega (arith, ints)

weeks_weigh_enough : (P : Instance) (y : List Weight) (s : List Symbol) (j x : ℕ) → MeetsWeighedDays P y s → IsDay P j → x ≤ shift_count P → (weight_at y j x ≡ pos 0) ⊎ (weight_at y j x ≢ pos 0) → least_weight P y j x ≤ℤ weeks_weight P y s j x
weeks_weigh_enough P y s j x met day small (inl e) = equal_le (least_weight P y j x) (weeks_weight P y s j x) (min_zero (weight_at y j x) (least P x j) (pos (weeks_with P s x j)) (greatest P x j) e)
weeks_weigh_enough P y s j x met day small (inr ne) =
    let bounds = met j day (x, ne) x small in
    min_between (weight_at y j x) (least P x j) (pos (weeks_with P s x j)) (greatest P x j) bounds.0 bounds.1

pub days_weigh_enough : (P : Instance) (y : List Weight) (s : List Symbol) → MeetsWeighedDays P y s → total P y ≤ℤ int_sum_by (day_weight P y s) (range_with_len 1 P.days)
days_weigh_enough P y s met =
    sum_le (λ j. int_sum_by (λ x. least_weight P y j x) (range_with_len 0 (shift_count P + 1))) (day_weight P y s) 1 P.days
    (λ j le lt. sum_le (λ x. least_weight P y j x) (λ x. weeks_weight P y s j x) 0 (shift_count P + 1)
    (λ x low high. weeks_weigh_enough P y s j x met (omega (arith, le), omega (arith, lt)) (omega (arith, high)) (weighs_or_not (weight_at y j x))))

-- where the day rules are met that the weights bear on, a window of whole turns weighs at least `turns` times the total
pub window_weighs_enough : (P : Instance) (y : List Weight) (s : List Symbol) (p turns : ℕ) → IsRoster P s → MeetsWeighedDays P y s → (pos turns *ℤ total P y) ≤ℤ weight P y p (window s p (turns * cells P))
window_weighs_enough P y s p turns roster met =
    subst (λ z. (pos turns *ℤ total P y) ≤ℤ z) (sym (turns_weight P y s p turns roster))
    (times_pos_le turns (total P y) (int_sum_by (day_weight P y s) (range_with_len 1 P.days)) (days_weigh_enough P y s met))

squeezed : (l c g : ℤ) → l ≤ℤ c → c ≤ℤ g → l ≡ g → (l ≡ c) × (g ≡ c)
squeezed l c g a b e = (omega (arith, ints), omega (arith, ints))

weeks_weigh_exactly : (P : Instance) (y : List Weight) (s : List Symbol) (j x : ℕ) → MeetsWeighedDays P y s → HasSingleNumbers P y → IsDay P j → x ≤ shift_count P → (weight_at y j x ≡ pos 0) ⊎ (weight_at y j x ≢ pos 0) → least_weight P y j x ≡ weeks_weight P y s j x
weeks_weigh_exactly P y s j x met single day small (inl e) = min_zero (weight_at y j x) (least P x j) (pos (weeks_with P s x j)) (greatest P x j) e
weeks_weigh_exactly P y s j x met single day small (inr ne) =
    let bounds = met j day (x, ne) x small in
    let same = squeezed (least P x j) (pos (weeks_with P s x j)) (greatest P x j) bounds.0 bounds.1 (single j x day (x, ne) small) in
    let v = weight_at y j x in
    ap (λ z. int_min (v *ℤ z) (v *ℤ greatest P x j)) same.0 ∙ ap (λ z. int_min (v *ℤ pos (weeks_with P s x j)) (v *ℤ z)) same.1 ∙ min_same (v *ℤ pos (weeks_with P s x j))

-- and where these days have single numbers, exactly so
pub window_weighs_exactly : (P : Instance) (y : List Weight) (s : List Symbol) (p turns : ℕ) → IsRoster P s → MeetsWeighedDays P y s → HasSingleNumbers P y → weight P y p (window s p (turns * cells P)) ≡ pos turns *ℤ total P y
window_weighs_exactly P y s p turns roster met single =
    turns_weight P y s p turns roster
    ∙ ap (λ z. pos turns *ℤ z) (sym (sum_same (λ j. int_sum_by (λ x. least_weight P y j x) (range_with_len 0 (shift_count P + 1))) (day_weight P y s) 1 P.days
    (λ j le lt. sum_same (λ x. least_weight P y j x) (λ x. weeks_weight P y s j x) 0 (shift_count P + 1)
    (λ x low high. weeks_weigh_exactly P y s j x met single (omega (arith, le), omega (arith, lt)) (omega (arith, high)) (weighs_or_not (weight_at y j x))))))
