-- What an instance gives for a symbol: its row, its name and how many weeks are to hold it.
use Rattle.std.proofs.Common.{◌≡◌, ◌≢◌, ℕ, zero, suc, ◌+◌, ◌-◌, ◌<◌, ◌≤◌, List, length, get_or, Option, Some, Bool, true, false, cond, refl, ap, sym, ◌∙◌, arith, subst}
use Rattle.std.specs.Prelude.{pos, ◌-ℤ◌, All, position, slice_get}
use Rattle.std.specs.Option.{option_map}
use Rattle.std.specs.Str.{bytes_eq}
use Rattle.std.proofs.lemmas.Option.{slice_get-get_or, slice_get_within, get_or_from_slice_get}
use Rattle.rwsp_terms.specs.declared.data.Bounds.{Bounds}
use Rattle.rwsp_terms.specs.declared.data.ShiftRow.{ShiftRow}
use Rattle.rwsp_terms.specs.declared.data.Sequence.{Sequence}
use Rattle.rwsp_terms.specs.Instance.{Instance, shift_count, no_bounds, range_in, shift_demand, column_least, column_greatest, least, greatest, off_name, symbol_numbered, symbol_among}
use Rattle.rwsp_model.specs.Validity.{KeepsLimits, IsSmallRange, AreSmall}

-- instances are the same where their lists are

abbrev with_lists : Instance → List (List Bounds) → List ShiftRow → List Sequence → Instance
with_lists P demand shifts sequences = record P { demand = demand; shifts = shifts; sequences = sequences }

pub same_instance : (P : Instance) (demand : List (List Bounds)) (shifts : List ShiftRow) (sequences : List Sequence) → demand ≡ P.demand → shifts ≡ P.shifts → sequences ≡ P.sequences → with_lists P demand shifts sequences ≡ P
same_instance P demand shifts sequences d s q =
    ap (λ v. with_lists P v shifts sequences) d ∙ ap (λ v. with_lists P P.demand v sequences) s
    ∙ ap (λ v. with_lists P P.demand P.shifts v) q

-- demand

-- each row has a small range for each day
pub rows_have_day : (P : Instance) (day : ℕ) → KeepsLimits P → (0 < day) × (day ≤ P.days) → All (λ row. (day ≤ length row) × IsSmallRange (get_or row (day - 1) no_bounds)) P.demand
rows_have_day P day limits h k d within =
    let long : length (get_or P.demand k d) ≡ P.days = limits.long_rows k d within in
    let few : day ≤ length (get_or P.demand k d) = omega (arith, h.1) in
    let inside : day - 1 < length (get_or P.demand k d) = omega (arith, h.0) in
    (few, limits.demand k d within (day - 1) no_bounds inside)

pub row_has_day : (P : Instance) (x day : ℕ) (row : List Bounds) → KeepsLimits P → (0 < x) × (x ≤ shift_count P) → (0 < day) × (day ≤ P.days) → row ≡ get_or P.demand (x - 1) row → (day ≤ length row) × IsSmallRange (get_or row (day - 1) no_bounds)
row_has_day P x day row limits shift h here =
    let inside : x - 1 < length P.demand = omega (arith, limits.rows, shift.0, shift.1) in
    let Q : List Bounds → Type 0 = λ r. (day ≤ length r) × IsSmallRange (get_or r (day - 1) no_bounds) in
    subst Q (sym here) (rows_have_day P day limits h (x - 1) row inside)

pub shift_range_is : (P : Instance) (x day : ℕ) (row : List Bounds) → KeepsLimits P → (0 < x) × (x ≤ shift_count P) → row ≡ get_or P.demand (x - 1) row → get_or row (day - 1) no_bounds ≡ shift_demand P x day
shift_range_is P x day row limits shift here =
    let inside : x - 1 < length P.demand = omega (arith, limits.rows, shift.0, shift.1) in
    ap (λ r. get_or r (day - 1) no_bounds) here
    ∙ sym (ap (λ r. range_in r (day - 1)) (slice_get-get_or P.demand (x - 1) row inside))

pub least_of_off : (P : Instance) (x day : ℕ) → x ≡ 0 → pos P.weeks -ℤ pos (column_greatest P day) ≡ least P x day
least_of_off P x day none = sym (ap (λ n. least P n day) none)

pub greatest_of_off : (P : Instance) (x day : ℕ) → x ≡ 0 → pos P.weeks -ℤ pos (column_least P day) ≡ greatest P x day
greatest_of_off P x day none = sym (ap (λ n. greatest P n day) none)

pub least_of_shift : (P : Instance) (x day : ℕ) → x ≢ 0 → pos (shift_demand P x day).least ≡ least P x day
least_of_shift P zero day some = absurd (some refl)
least_of_shift P (suc x) day some = refl

pub greatest_of_shift : (P : Instance) (x day : ℕ) → x ≢ 0 → pos (shift_demand P x day).greatest ≡ greatest P x day
greatest_of_shift P zero day some = absurd (some refl)
greatest_of_shift P (suc x) day some = refl

-- bounds

pub block_is_small : (P : Instance) (n : ℕ) (row : ShiftRow) → KeepsLimits P → slice_get P.shifts n ≡ Some row → AreSmall row.bounds
block_is_small P n row limits read =
    let Q : ShiftRow → Type 0 = λ r. AreSmall r.bounds in
    subst Q (get_or_from_slice_get P.shifts n row row read) (limits.blocks n row (slice_get_within P.shifts n row read))

-- names

pub symbol_of_dash : (rows : List ShiftRow) (name : List ℕ) → bytes_eq name off_name ≡ true → Some (symbol_numbered 0) ≡ symbol_among rows name
symbol_of_dash rows name dash =
    let later = option_map (λ k. symbol_numbered (k + 1)) (position (λ (row : ShiftRow). bytes_eq name row.name) rows) in
    sym (ap (λ (b : Bool). cond b (Some (symbol_numbered 0)) later) dash)

pub symbol_of_place : (rows : List ShiftRow) (name : List ℕ) (place : Option ℕ) → bytes_eq name off_name ≡ false → place ≡ position (λ row. bytes_eq name row.name) rows → option_map (λ k. symbol_numbered (k + 1)) place ≡ symbol_among rows name
symbol_of_place rows name place other found =
    let later = option_map (λ k. symbol_numbered (k + 1)) (position (λ (row : ShiftRow). bytes_eq name row.name) rows) in
    ap (option_map (λ k. symbol_numbered (k + 1))) found
    ∙ sym (ap (λ (b : Bool). cond b (Some (symbol_numbered 0)) later) other)
