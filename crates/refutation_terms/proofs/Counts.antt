-- Counting the positions of a day.
use Rattle.std.proofs.Common.{◌≡◌, ℕ, suc, ◌+◌, ◌-◌, ◌*◌, ◌<◌, ◌≤◌, List, length, get_or, refl, ◌∙◌, subst, arith, Bool, true, false, IsTrue, ◌||◌, ◌==◌, not, pos, ℤ}
use Rattle.std.specs.Prelude.{◌<ℤ◌, ◌≤ℤ◌}
use Rattle.std.specs.List.{range_with_len, list_all}
use Rattle.std.proofs.lemmas.Int.{ints}
use Rattle.std.proofs.lemmas.List.FromFn.{length-range_with_len, get_or-range_with_len}
use Rattle.std.proofs.lemmas.List.Sums.{AllPass-from_list_all}
use Rattle.std.proofs.Math.Nat.{mul-le-mul_right}
use Rattle.std.proofs.lemmas.Bool.{eqb-true, eq-eqb}
use Rattle.rwsp_terms.specs.declared.data.Symbol.{Symbol}
use Rattle.rwsp_terms.specs.Instance.{Instance, cells, shift_count, least, greatest, IsDay, off_symbol}
use Rattle.rwsp_terms.specs.Roster.{MeetsDay, weeks_with}
use Rattle.rwsp_terms.proofs.Counting.{count_mono}
use Rattle.refutation_terms.specs.Word.{Domains, Within}
use Rattle.refutation_terms.specs.DayLeaf.{is_only, fixed, possible, HasTooMany, HasTooFew}
use Rattle.refutation_terms.proofs.Tests.{right_of}

apart_up : (g : ℤ) (c f : ℕ) → pos c ≤ℤ g → f ≤ c → g <ℤ pos f → ⊥
apart_up g c f a b d = omega (arith, ints)

apart_down : (l : ℤ) (c f : ℕ) → l ≤ℤ pos c → c ≤ f → pos f <ℤ l → ⊥
apart_down l c f a b d = omega (arith, ints)

-- a test of a whole range, at one number
pub all_in_range : (test : ℕ → Bool) (n i : ℕ) → i < n → IsTrue (list_all test (range_with_len 0 n)) → IsTrue (test i)
all_in_range test n i lt h =
    let short : i < length (range_with_len 0 n) = omega (arith, lt, length-range_with_len 0 n) in
    let here : test (get_or (range_with_len 0 n) i 0) ≡ true = AllPass-from_list_all test (range_with_len 0 n) h i 0 short in
    let at : get_or (range_with_len 0 n) i 0 ≡ i = get_or-range_with_len 0 n i 0 lt ∙ omega arith in
    subst (λ k. test k ≡ true) at here

one_of : (a b : Bool) → IsTrue (a || not b) → IsTrue b → a ≡ true
one_of true b h k = refl
one_of false true h k = absurd (cc)
one_of false false h k = absurd (cc)

-- the symbol that is alone in a domain is the only one there
pub only_one : (P : Instance) (D : Domains) (p x z : ℕ) → IsTrue (is_only P D p x) → z ≤ shift_count P → IsTrue (D p z) → z ≡ x
only_one P D p x z h le there =
    let each : IsTrue ((z == x) || not (D p z)) = all_in_range (λ z. (z == x) || not (D p z)) (shift_count P + 1) z (omega (arith, le)) (right_of (D p x) (list_all (λ z. (z == x) || not (D p z)) (range_with_len 0 (shift_count P + 1))) h) in
    eqb-true z x (one_of (z == x) (D p z) each there)

-- the positions of a day's column are cells
pub in_column : (P : Instance) (i j : ℕ) → i < P.weeks → IsDay P j → i * P.days + (j - 1) < cells P
in_column P i j lt day =
    let rows : suc i * P.days ≤ P.weeks * P.days = mul-le-mul_right P.days (let le : suc i ≤ P.weeks = omega (arith, lt) in le) in
    let less : j - 1 < P.days = let a : 0 < j = day.0 in let b : j ≤ P.days = day.1 in omega (arith, a, b) in
    omega (arith, rows, less)

-- what certainly holds the symbol holds it, and what holds it can hold it
pub fixed-weeks_with : (P : Instance) (D : Domains) (s : List Symbol) (j x : ℕ) → IsDay P j → Within P D s → fixed P D j x ≤ weeks_with P s x j
fixed-weeks_with P D s j x day w =
    count_mono (λ i. is_only P D (i * P.days + (j - 1)) x) (λ i. (get_or s (i * P.days + (j - 1)) off_symbol).number == x) 0 P.weeks
    (λ i le lt only.
    let q = i * P.days + (j - 1) in
    let here : q < cells P = in_column P i j (omega (arith, lt)) day in
    let small : (get_or s q off_symbol).number ≤ shift_count P = w.is_roster.symbols q off_symbol (omega (arith, here, w.is_roster.long)) in
    eq-eqb (get_or s q off_symbol).number x (only_one P D q x (get_or s q off_symbol).number only small (w.each q here)))

pub weeks_with-possible : (P : Instance) (D : Domains) (s : List Symbol) (j x : ℕ) → IsDay P j → Within P D s → weeks_with P s x j ≤ possible P D j x
weeks_with-possible P D s j x day w =
    count_mono (λ i. (get_or s (i * P.days + (j - 1)) off_symbol).number == x) (λ i. D (i * P.days + (j - 1)) x) 0 P.weeks
    (λ i le lt same.
    let q = i * P.days + (j - 1) in
    let here : q < cells P = in_column P i j (omega (arith, lt)) day in
    subst (λ z. D q z ≡ true) (eqb-true (get_or s q off_symbol).number x same) (w.each q here))

-- a day that is met has no symbol too often, and none too rarely
pub met_not_too_many : (P : Instance) (D : Domains) (s : List Symbol) (j x : ℕ) → IsDay P j → x ≤ shift_count P → Within P D s → MeetsDay P j s → HasTooMany P D j x → ⊥
met_not_too_many P D s j x day small w met too_many =
    let most : pos (weeks_with P s x j) ≤ℤ greatest P x j = (met x small).1 in
    let le : fixed P D j x ≤ weeks_with P s x j = fixed-weeks_with P D s j x day w in
    let more : greatest P x j <ℤ pos (fixed P D j x) = too_many in
    apart_up (greatest P x j) (weeks_with P s x j) (fixed P D j x) most le more

pub met_not_too_few : (P : Instance) (D : Domains) (s : List Symbol) (j x : ℕ) → IsDay P j → x ≤ shift_count P → Within P D s → MeetsDay P j s → HasTooFew P D j x → ⊥
met_not_too_few P D s j x day small w met too_few =
    let fewest : least P x j ≤ℤ pos (weeks_with P s x j) = (met x small).0 in
    let le : weeks_with P s x j ≤ possible P D j x = weeks_with-possible P D s j x day w in
    let less : pos (possible P D j x) <ℤ least P x j = too_few in
    apart_down (least P x j) (weeks_with P s x j) (possible P D j x) fewest le less
