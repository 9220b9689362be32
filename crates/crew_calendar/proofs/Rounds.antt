-- How many employees have a symbol on a day.
use Rattle.std.proofs.Common.{◌≡◌, ℕ, zero, suc, ◌+◌, ◌-◌, ◌*◌, ◌/◌, ◌%◌, ◌<◌, ◌≤◌, Bool, cond, ◌==◌, count_by, List, length, get_or, refl, ap, sym, subst, ◌∙◌, arith, pos}
use Rattle.std.specs.Prelude.{◌≤ℤ◌}
use Rattle.std.specs.List.{range_with_len}
use Rattle.std.proofs.lemmas.Nat.{mod_below}
use Rattle.rwsp_terms.specs.declared.data.Symbol.{Symbol}
use Rattle.rwsp_terms.specs.declared.data.Rule.TheVariants.{Day}
use Rattle.rwsp_terms.specs.Instance.{Instance, cells, least, greatest, IsDay, off_symbol}
use Rattle.rwsp_terms.specs.Window.{cell}
use Rattle.rwsp_terms.specs.Roster.{MeetsAll, weeks_with}
use Rattle.rwsp_terms.proofs.Counting.{count_same, count_next}
use Rattle.refutation_terms.specs.Word.{turned}
use Rattle.refutation_terms.proofs.Turning.{length-turned, cell-turned, cell-within, weeks_with-turned}
use Rattle.refutation_terms.proofs.Counts.{in_column}
use Rattle.crew_calendar.specs.Crew.{symbol_on}
use Rattle.crew_calendar.specs.Facts.{crew_with, weekday, MeetsDemandDaily}
use Rattle.crew_calendar.proofs.Standing.{symbol-cell}

-- a count over numbers from a + 1 on is one over numbers from a on
count_up : (f : ℕ → Bool) (a n : ℕ) → count_by f (range_with_len (a + 1) n) ≡ count_by (λ i. f (i + 1)) (range_with_len a n)
count_up f a zero = refl
count_up f a (suc n) =
    count_next f (a + 1) n ∙ ap (λ c. cond (f (a + 1)) 1 0 + c) (count_up f (a + 1) n) ∙ sym (count_next (λ i. f (i + 1)) a n)

-- the employee who starts in week i + 1 has on day t what the roster, turned by the whole weeks until then, has in that
-- week
symbol-turned : (P : Instance) (s : List Symbol) (i t : ℕ) → 0 < cells P → 0 < P.days → length s ≡ cells P → i < P.weeks → symbol_on P s (i + 1) t ≡ get_or (turned P (t / P.days) s) (i * P.days + (weekday P t - 1)) off_symbol
symbol-turned P s i t some days long less =
    let r : t % P.days < P.days = mod_below t P.days days in
    let day : IsDay P (weekday P t) = (omega arith, omega (arith, r)) in
    let first : i + 1 - 1 ≡ i = omega arith in
    let back : weekday P t - 1 ≡ t % P.days = omega arith in
    let split : i * P.days + t ≡ t / P.days * P.days + (i * P.days + (weekday P t - 1)) = omega (arith, back, days) in
    let inside : i * P.days + (weekday P t - 1) < cells P = in_column P i (weekday P t) less day in
    symbol-cell P s (i + 1) t long
    ∙ ap (λ k. cell s (k * P.days + t)) first
    ∙ ap (cell s) split
    ∙ sym (cell-turned P (t / P.days) s (i * P.days + (weekday P t - 1)) some long)
    ∙ cell-within (turned P (t / P.days) s) (i * P.days + (weekday P t - 1)) (omega (arith, inside, length-turned P (t / P.days) s))

-- as many employees have a symbol on a day as weeks of the roster hold it on that day of the week
crew-weeks : (P : Instance) (s : List Symbol) (t x : ℕ) → 0 < cells P → 0 < P.days → length s ≡ cells P → crew_with P s t x ≡ weeks_with P s x (weekday P t)
crew-weeks P s t x some days long =
    let r : t % P.days < P.days = mod_below t P.days days in
    let day : IsDay P (weekday P t) = (omega arith, omega (arith, r)) in
    let one : 1 ≡ 0 + 1 = omega arith in
    count_up (λ e. (symbol_on P s e t).number == x) 0 P.weeks
    ∙ count_same (λ i. (symbol_on P s (i + 1) t).number == x) (λ i. (get_or (turned P (t / P.days) s) (i * P.days + (weekday P t - 1)) off_symbol).number == x) 0 P.weeks
    (λ i le lt. ap (λ (z : Symbol). z.number == x) (symbol-turned P s i t some days long (omega (arith, lt))))
    ∙ weeks_with-turned P (t / P.days) s x (weekday P t) some day long

pub is_staffed : (P : Instance) (s : List Symbol) → 0 < cells P → 0 < P.days → MeetsAll P s → MeetsDemandDaily P s
is_staffed P s some days meets t x known =
    let r : t % P.days < P.days = mod_below t P.days days in
    let day : IsDay P (weekday P t) = (omega arith, omega (arith, r)) in
    let met = meets.rules (Day (weekday P t)) day x known in
    let same = sym (crew-weeks P s t x some days meets.is_roster.long) in
    (subst (λ c. least P x (weekday P t) ≤ℤ pos c) same met.0, subst (λ c. pos c ≤ℤ greatest P x (weekday P t)) same met.1)

pub some_cells : (weeks days : ℕ) → 1 ≤ weeks → 1 ≤ days → 0 < weeks * days
some_cells zero days h k = absurd (omega (arith, h))
some_cells (suc weeks) days h k = omega (arith, k)
