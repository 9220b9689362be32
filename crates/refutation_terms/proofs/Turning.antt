-- Rosters turned by whole weeks.
use Rattle.std.proofs.Common.{◌≡◌, ℕ, zero, suc, ◌+◌, ◌-◌, ◌*◌, ◌%◌, ◌<◌, ◌≤◌, List, length, get_or, refl, ap, sym, ◌∙◌, subst, arith, Bool, true, false, cond, ◌==◌, count_by, pos, ℤ}
use Rattle.std.specs.Prelude.{◌≤ℤ◌}
use Rattle.std.specs.List.{range_with_len}
use Rattle.std.proofs.lemmas.Int.{ints}
use Rattle.std.proofs.lemmas.Nat.{mod_below}
use Rattle.std.proofs.lemmas.Bool.{eqb-true}
use Rattle.std.proofs.Math.Nat.{add-mod-mod, add-mod_right, add-mul-mod_self_right, mod-eq_of_lt, mul-le-mul_right}
use Rattle.rwsp_terms.specs.declared.data.Symbol.{Symbol}
use Rattle.rwsp_terms.specs.declared.data.Rule.{Rule}
use Rattle.rwsp_terms.specs.declared.data.Rule.TheVariants.{Most, Least, Never, Day}
use Rattle.rwsp_terms.specs.Instance.{Instance, cells, least, greatest, IsDay, IsSymbol, symbol_numbered, off_symbol}
use Rattle.rwsp_terms.specs.Window.{Bad, cell, window}
use Rattle.rwsp_terms.specs.Roster.{IsRoster, IsRule, MeetsDay, MeetsRule, HasNoWindow, weeks_with}
use Rattle.rwsp_terms.proofs.Windows.{length-window, get_or-window}
use Rattle.rwsp_terms.proofs.Counting.{count_same, count_next}
use Rattle.refutation_terms.specs.Word.{turned}
use Rattle.refutation_terms.proofs.Windows.{window-same, bad-same_day, day_round, no_bad_window}
use Rattle.refutation_terms.proofs.Counts.{in_column}

pub length-turned : (P : Instance) (k : ℕ) (s : List Symbol) → length (turned P k s) ≡ cells P
length-turned P k s = length-window s (k * P.days) (cells P)

pub cell-turned : (P : Instance) (k : ℕ) (s : List Symbol) (q : ℕ) → 0 < cells P → length s ≡ cells P → cell (turned P k s) q ≡ cell s (k * P.days + q)
cell-turned P k s q some long =
    let t = turned P k s in
    let same : q % length t ≡ q % cells P = ap (λ m. q % m) (length-turned P k s) in
    let lt : q % cells P < cells P = mod_below q (cells P) some in
    let around : (k * P.days + q % cells P) % length s ≡ (k * P.days + q) % length s =
    ap (λ m. (k * P.days + q % cells P) % m) long ∙ add-mod-mod (k * P.days) q (cells P) ∙ ap (λ m. (k * P.days + q) % m) (sym long) in
    ap (λ r. get_or t r off_symbol) same ∙ get_or-window s (k * P.days) (cells P) (q % cells P) off_symbol lt ∙ ap (λ r. get_or s r off_symbol) around

-- a window of the turned roster is one of the roster
pub window-turned : (P : Instance) (k : ℕ) (s : List Symbol) (p len : ℕ) → 0 < cells P → length s ≡ cells P → window (turned P k s) p len ≡ window s (k * P.days + p) len
window-turned P k s p zero some long = refl
window-turned P k s p (suc len) some long =
    let here : cell (turned P k s) p ≡ cell s (k * P.days + p) = cell-turned P k s p some long in
    let e : k * P.days + (p + 1) ≡ k * P.days + p + 1 = omega arith in
    let more : window (turned P k s) (p + 1) len ≡ window s (k * P.days + p + 1) len = window-turned P k s (p + 1) len some long ∙ ap (λ q. window s q len) e in
    cc

pub turned-IsRoster : (P : Instance) (k : ℕ) (s : List Symbol) → 0 < cells P → IsRoster P s → IsRoster P (turned P k s)
turned-IsRoster P k s some roster = record {
  long = length-turned P k s;
  symbols = λ i d lt.
      let less : i < cells P = omega (arith, lt, length-turned P k s) in
      let positive : 0 < length s = omega (arith, some, roster.long) in
      let there : (k * P.days + i) % length s < length s = mod_below (k * P.days + i) (length s) positive in
      subst (IsSymbol P) (sym (get_or-window s (k * P.days) (cells P) i d less)) (roster.symbols ((k * P.days + i) % length s) off_symbol there);
}

pub count_shift : (f : ℕ → Bool) (b a n : ℕ) → count_by f (range_with_len (b + a) n) ≡ count_by (λ i. f (b + i)) (range_with_len a n)
count_shift f b a zero = refl
count_shift f b a (suc n) =
    let e : b + a + 1 ≡ b + (a + 1) = omega arith in
    count_next f (b + a) n ∙ ap (λ c. cond (f (b + a)) 1 0 + c) (ap (λ c. count_by f (range_with_len c n)) e ∙ count_shift f b (a + 1) n) ∙ sym (count_next (λ i. f (b + i)) a n)

count_last : (f : ℕ → Bool) (a n : ℕ) → count_by f (range_with_len a (suc n)) ≡ count_by f (range_with_len a n) + cond (f (a + n)) 1 0
count_last f a zero = let e : a ≡ a + zero = omega arith in let n : cond (f a) 1 0 + 0 ≡ 0 + cond (f a) 1 0 = omega arith in count_next f a 0 ∙ n ∙ ap (λ b. 0 + cond (f b) 1 0) e
count_last f a (suc n) =
    let e : a + 1 + n ≡ a + suc n = omega arith in
    let more : count_by f (range_with_len (a + 1) (suc n)) ≡ count_by f (range_with_len (a + 1) n) + cond (f (a + suc n)) 1 0 = count_last f (a + 1) n ∙ ap (λ b. count_by f (range_with_len (a + 1) n) + cond (f b) 1 0) e in
    let first : count_by f (range_with_len a (suc (suc n))) ≡ cond (f a) 1 0 + count_by f (range_with_len (a + 1) (suc n)) = count_next f a (suc n) in
    let again : count_by f (range_with_len a (suc n)) ≡ cond (f a) 1 0 + count_by f (range_with_len (a + 1) n) = count_next f a n in
    omega arith

pub count_period : (f : ℕ → Bool) (m : ℕ) → ((i : ℕ) → f (i + m) ≡ f i) → (a : ℕ) → count_by f (range_with_len a m) ≡ count_by f (range_with_len 0 m)
count_period f m h zero = refl
count_period f m h (suc a) =
    let e : suc a ≡ a + 1 = omega arith in
    let next : count_by f (range_with_len (suc a) m) ≡ count_by f (range_with_len (a + 1) m) = ap (λ b. count_by f (range_with_len b m)) e in
    let front : count_by f (range_with_len a (suc m)) ≡ cond (f a) 1 0 + count_by f (range_with_len (a + 1) m) = count_next f a m in
    let end : count_by f (range_with_len a (suc m)) ≡ count_by f (range_with_len a m) + cond (f (a + m)) 1 0 = count_last f a m in
    let same : cond {A = ℕ} (f (a + m)) 1 0 ≡ cond {A = ℕ} (f a) 1 0 = ap (λ b. cond {A = ℕ} b 1 0) (h a) in
    let before : count_by f (range_with_len a m) ≡ count_by f (range_with_len 0 m) = count_period f m h a in
    omega arith

-- whether a week of the endless roster holds the symbol on the day
abbrev pub holds_in : Instance → List Symbol → ℕ → ℕ → ℕ → Bool
holds_in P s x j i = (cell s (i * P.days + (j - 1))).number == x

holds_in-period : (P : Instance) (s : List Symbol) (x j i : ℕ) → length s ≡ cells P → holds_in P s x j (i + P.weeks) ≡ holds_in P s x j i
holds_in-period P s x j i long =
    let e : (i + P.weeks) * P.days + (j - 1) ≡ i * P.days + (j - 1) + P.weeks * P.days = omega arith in
    let around : (i * P.days + (j - 1) + cells P) % length s ≡ (i * P.days + (j - 1)) % length s = ap (λ m. (i * P.days + (j - 1) + m) % length s) (sym long) ∙ add-mod_right (i * P.days + (j - 1)) (length s) in
    ap (λ q. (cell s q).number == x) e ∙ ap (λ r. (get_or s r off_symbol).number == x) around

-- within the weeks of the roster a cell is the symbol at its position
pub cell-within : (s : List Symbol) (q : ℕ) → q < length s → cell s q ≡ get_or s q off_symbol
cell-within s q lt = ap (λ r. get_or s r off_symbol) (mod-eq_of_lt lt)

pub weeks_with-holds_in : (P : Instance) (s : List Symbol) (x j : ℕ) → IsDay P j → length s ≡ cells P → weeks_with P s x j ≡ count_by (holds_in P s x j) (range_with_len 0 P.weeks)
weeks_with-holds_in P s x j day long =
    count_same (λ i. (get_or s (i * P.days + (j - 1)) off_symbol).number == x) (holds_in P s x j) 0 P.weeks
    (λ i le lt.
    let inside : i * P.days + (j - 1) < cells P = in_column P i j (omega (arith, lt)) day in
    ap (λ (z : Symbol). z.number == x) (sym (cell-within s (i * P.days + (j - 1)) (omega (arith, inside, long)))))

-- turning keeps how many weeks hold a symbol on a day
pub weeks_with-turned : (P : Instance) (k : ℕ) (s : List Symbol) (x j : ℕ) → 0 < cells P → IsDay P j → length s ≡ cells P → weeks_with P (turned P k s) x j ≡ weeks_with P s x j
weeks_with-turned P k s x j some day long =
    let none : k ≡ k + 0 = omega arith in
    weeks_with-holds_in P (turned P k s) x j day (length-turned P k s)
    ∙ count_same (holds_in P (turned P k s) x j) (λ i. holds_in P s x j (k + i)) 0 P.weeks
    (λ i le lt.
    let e : k * P.days + (i * P.days + (j - 1)) ≡ (k + i) * P.days + (j - 1) = omega arith in
    ap (λ (z : Symbol). z.number == x) (cell-turned P k s (i * P.days + (j - 1)) some long ∙ ap (cell s) e))
    ∙ sym (count_shift (holds_in P s x j) k 0 P.weeks)
    ∙ ap (λ b. count_by (holds_in P s x j) (range_with_len b P.weeks)) (sym none)
    ∙ count_period (holds_in P s x j) P.weeks (λ i. holds_in-period P s x j i long) k
    ∙ sym (weeks_with-holds_in P s x j day long)

MeetsDay-along : (P : Instance) (j : ℕ) (s t : List Symbol) → ((x : ℕ) → weeks_with P t x j ≡ weeks_with P s x j) → MeetsDay P j s → MeetsDay P j t
MeetsDay-along P j s t same met x small =
    let here = met x small in
    (subst (λ c. least P x j ≤ℤ pos c) (sym (same x)) here.0, subst (λ c. pos c ≤ℤ greatest P x j) (sym (same x)) here.1)

-- a place from which turning by k weeks gives the place p back
back_place : (P : Instance) (k p : ℕ) (s : List Symbol) → length s ≡ cells P → 0 < cells P → (q : ℕ) × ((k * P.days + q) % length s ≡ p % length s)
back_place P k p s long some =
    let weeks : 0 < P.weeks = weeks_some P.weeks P.days some in
    let more : k * P.days ≤ k * cells P = le_times k P.weeks P.days weeks in (
      p + (k * cells P - k * P.days),
      let e : k * P.days + (p + (k * cells P - k * P.days)) ≡ p + k * cells P = omega (arith, more) in
          ap (λ q. q % length s) e ∙ ap (λ m. (p + k * m) % length s) (sym long) ∙ add-mul-mod_self_right p k (length s),
    )
  where
    weeks_some : (n w : ℕ) → 0 < n * w → 0 < n
    weeks_some zero w h = let e : zero * w ≡ 0 = omega arith in absurd (omega (arith, h, e))
    weeks_some (suc n) w h = omega arith

    le_times : (k n w : ℕ) → 0 < n → k * w ≤ k * (n * w)
    le_times k zero w h = absurd (omega (arith, h))
    le_times k (suc n) w h = let e : k * (suc n * w) ≡ k * w + k * (n * w) = omega arith in omega (arith, e)

-- the day of the week stays
turned_day : (p k d : ℕ) → (k * d + p) % d ≡ p % d
turned_day p k d = let e : k * d + p ≡ p + k * d = omega arith in ap (λ n. n % d) e ∙ add-mul-mod_self_right p k d

no_bad-turned : (P : Instance) (k : ℕ) (r : Rule) (s : List Symbol) → 0 < cells P → length s ≡ cells P → HasNoWindow (Bad P r) s → HasNoWindow (Bad P r) (turned P k s)
no_bad-turned P k r s some long h p len lt bad =
    no_bad_window P r s (omega (arith, some, long)) long h (k * P.days + p) len
    (bad-same_day P r p (k * P.days + p) (window s (k * P.days + p) len) (sym (turned_day p k P.days)) (subst (Bad P r p) (window-turned P k s p len some long) bad))

no_bad-back : (P : Instance) (k : ℕ) (r : Rule) (s : List Symbol) → 0 < cells P → length s ≡ cells P → HasNoWindow (Bad P r) (turned P k s) → HasNoWindow (Bad P r) s
no_bad-back P k r s some long h p len lt bad =
    let q = back_place P k p s long some in
    let positive : 0 < length (turned P k s) = omega (arith, some, length-turned P k s) in
    let round : (k * P.days + q.0) % P.days ≡ p % P.days =
    sym (day_round (k * P.days + q.0) P.weeks P.days) ∙ ap (λ m. ((k * P.days + q.0) % m) % P.days) (sym long) ∙ ap (λ n. n % P.days) q.1
    ∙ ap (λ m. (p % m) % P.days) long ∙ day_round p P.weeks P.days in
    let days : p % P.days ≡ q.0 % P.days = sym round ∙ turned_day q.0 k P.days in
    no_bad_window P r (turned P k s) positive (length-turned P k s) h q.0 len
    (bad-same_day P r p q.0 (window (turned P k s) q.0 len) days
    (subst (Bad P r p) (sym (window-turned P k s q.0 len some long ∙ window-same s (k * P.days + q.0) p len q.1)) bad))

-- turning keeps every rule met, and every rule not met
pub turned-meets : (P : Instance) (k : ℕ) (r : Rule) (s : List Symbol) → 0 < cells P → IsRoster P s → IsRule P r → MeetsRule P r s → MeetsRule P r (turned P k s)
turned-meets P k (Most c) s some roster is h = no_bad-turned P k (Most c) s some roster.long h
turned-meets P k (Least c) s some roster is h = no_bad-turned P k (Least c) s some roster.long h
turned-meets P k (Never i) s some roster is h = no_bad-turned P k (Never i) s some roster.long h
turned-meets P k (Day j) s some roster is h = MeetsDay-along P j s (turned P k s) (λ x. weeks_with-turned P k s x j some is roster.long) h

pub turned-meets_back : (P : Instance) (k : ℕ) (r : Rule) (s : List Symbol) → 0 < cells P → IsRoster P s → IsRule P r → MeetsRule P r (turned P k s) → MeetsRule P r s
turned-meets_back P k (Most c) s some roster is h = no_bad-back P k (Most c) s some roster.long h
turned-meets_back P k (Least c) s some roster is h = no_bad-back P k (Least c) s some roster.long h
turned-meets_back P k (Never i) s some roster is h = no_bad-back P k (Never i) s some roster.long h
turned-meets_back P k (Day j) s some roster is h = MeetsDay-along P j (turned P k s) s (λ x. sym (weeks_with-turned P k s x j some is roster.long)) h

-- where some pass, one does
pub count_some : (f : ℕ → Bool) (a n : ℕ) → 0 < count_by f (range_with_len a n) → (i : ℕ) × (i < a + n) × (f i ≡ true)
count_some f a zero h = absurd (omega (arith, h))
count_some f a (suc n) h = count_some_by f a n h (f a) refl (λ m. count_some f (a + 1) n m)
  where
    count_some_by : (f : ℕ → Bool) (a n : ℕ) → 0 < count_by f (range_with_len a (suc n)) → (b : Bool) → f a ≡ b → (0 < count_by f (range_with_len (a + 1) n) → (i : ℕ) × (i < a + 1 + n) × (f i ≡ true)) → (i : ℕ) × (i < a + suc n) × (f i ≡ true)
    count_some_by f a n h true e more = (a, omega arith, e)
    count_some_by f a n h false e more =
        let rest : count_by f (range_with_len a (suc n)) ≡ 0 + count_by f (range_with_len (a + 1) n) = count_next f a n ∙ ap (λ b. cond b 1 0 + count_by f (range_with_len (a + 1) n)) e in
        let m = more (omega (arith, h, rest)) in
        (m.0, omega (arith, m.1), m.2)

at_least_one : (l : ℤ) (c : ℕ) → pos 1 ≤ℤ l → l ≤ℤ pos c → 0 < c
at_least_one l c a b = omega (arith, ints)

-- some week of a roster holds on a day that is met what must be there
week_of : (P : Instance) (s : List Symbol) (j : ℕ) (x : Symbol) → IsSymbol P x → MeetsDay P j s → pos 1 ≤ℤ least P x.number j → (i : ℕ) × (i < 0 + P.weeks) × (((get_or s (i * P.days + (j - 1)) off_symbol).number == x.number) ≡ true)
week_of P s j x small met demanded =
    count_some (λ i. (get_or s (i * P.days + (j - 1)) off_symbol).number == x.number) 0 P.weeks
    (at_least_one (least P x.number j) (weeks_with P s x.number j) demanded (met x.number small).0)

pub demanded_somewhere : (P : Instance) (s : List Symbol) (j : ℕ) (x : Symbol) → IsDay P j → IsSymbol P x → MeetsDay P j s → pos 1 ≤ℤ least P x.number j → 0 < cells P
demanded_somewhere P s j x day small met demanded =
    let week = week_of P s j x small met demanded in
    let inside : week.0 * P.days + (j - 1) < cells P = in_column P week.0 j (omega (arith, week.1)) day in
    omega (arith, inside)

-- where the day is met and the symbol must be there, some turned roster has it in week 1
pub turned_to : (P : Instance) (s : List Symbol) (j : ℕ) (x : Symbol) → 0 < cells P → IsRoster P s → IsDay P j → IsSymbol P x → MeetsDay P j s → pos 1 ≤ℤ least P x.number j → (k : ℕ) × (get_or (turned P k s) (j - 1) off_symbol ≡ x)
turned_to P s j x some roster day small met demanded =
    let week = week_of P s j x small met demanded in
    let i = week.0 in
    let inside : i * P.days + (j - 1) < cells P = in_column P i j (omega (arith, week.1)) day in
    let one : 1 * P.days ≤ P.weeks * P.days = mul-le-mul_right P.days (let le : 1 ≤ P.weeks = omega (arith, week.1) in le) in
    let first : j - 1 < cells P = let a : 0 < j = day.0 in let b : j ≤ P.days = day.1 in omega (arith, a, b, one) in
    let same : (get_or s (i * P.days + (j - 1)) off_symbol).number ≡ x.number = eqb-true (get_or s (i * P.days + (j - 1)) off_symbol).number x.number week.2 in
    (i, get_or-window s (i * P.days) (cells P) (j - 1) off_symbol first ∙ cell-within s (i * P.days + (j - 1)) (omega (arith, inside, roster.long)) ∙ ap symbol_numbered same)
