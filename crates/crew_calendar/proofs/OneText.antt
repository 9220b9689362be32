-- A table and duties have one text.
use Rattle.std.proofs.Common.{◌≡◌, ℕ, zero, suc, ◌+◌, ◌-◌, ◌*◌, ◌/◌, ◌%◌, ◌<◌, ◌≤◌, inl, inr, List, [], ◌∷◌, ◌++◌, get_or, refl, ap, sym, subst, ◌∙◌, arith}
use Rattle.std.specs.Prelude.{slice_get, Some, None, All, codes}
use Rattle.std.specs.List.{flat_map, range_with_len}
use Rattle.std.proofs.lemmas.Option.{slice_get_cases}
use Rattle.rwsp_terms.specs.declared.limits.TheConstants.{GREATEST_BOUND}
use Rattle.rwsp_terms.specs.declared.data.ShiftRow.{ShiftRow}
use Rattle.rwsp_terms.specs.declared.data.Symbol.{Symbol}
use Rattle.rwsp_terms.specs.Instance.{Instance, name_of}
use Rattle.rwsp_model.specs.Validity.{KeepsLimits}
use Rattle.crew_calendar.specs.declared.dates.TheConstants.{MOST_DAYS_LATER}
use Rattle.crew_calendar.specs.Crew.{symbol_on}
use Rattle.crew_calendar.specs.Calendar.{Date, date_text, IsCalendar}
use Rattle.crew_calendar.specs.Texts.{crew_text, day_line, day_minutes, clock_text, moment_text, start_in, length_in, start_of, length_of, shift_line, duty_line_of, duty_line, IsTable, AreDuties}
use Rattle.crew_calendar.proofs.Calendars.{one_text}

-- two calendars from one date have the same texts
agree : (date : Date) (days : ℕ) (on other : ℕ → Date) → IsCalendar date days on → IsCalendar date days other → (t : ℕ) → t < days → date_text (on t) ≡ date_text (other t)
agree date days on other here there t less = one_text (on t) (other t) (here t less ∙ sym (there t less))

pub lines_same : {X : Type 0} (f g : ℕ → List X) (a n : ℕ) → ((i : ℕ) → i < a + n → f i ≡ g i) → flat_map f (range_with_len a n) ≡ flat_map g (range_with_len a n)
lines_same f g a zero same = refl
lines_same f g a (suc n) same =
    let here : f a ≡ g a = same a (omega arith) in
    let more : flat_map f (range_with_len (a + 1) n) ≡ flat_map g (range_with_len (a + 1) n) = lines_same f g (a + 1) n (λ i less. same i (omega (arith, less))) in
    ap (λ l. l ++ flat_map f (range_with_len (a + 1) n)) here ∙ ap (λ l. g a ++ l) more

pub one_table : (P : Instance) (s : List Symbol) (date : Date) (days : ℕ) (text other : List ℕ) → IsTable P s date days text → IsTable P s date days other → text ≡ other
one_table P s date days text other a b =
    a.is
    ∙ lines_same (day_line P s a.on) (day_line P s b.on) 0 days
    (λ t less. ap (λ d. d ++ crew_text P s t ++ 10 ∷ []) (agree date (days + MOST_DAYS_LATER) a.on b.on a.calendar b.calendar t (omega (arith, less))))
    ∙ sym b.is

-- what a row has that may be there
pub row_small : (rows : List ShiftRow) (k : ℕ) → All (λ (row : ShiftRow). (row.start ≤ GREATEST_BOUND) × (row.length ≤ GREATEST_BOUND)) rows → (start_in (slice_get rows k) ≤ GREATEST_BOUND) × (length_in (slice_get rows k) ≤ GREATEST_BOUND)
row_small rows k times =
    elim (slice_get_cases rows k).1 [
      | inl found ↦
          let small = times k found.0 found.1 in
          let row : get_or rows k found.0 ≡ found.0 = found.3 in
          let is : slice_get rows k ≡ Some found.0 = found.2 in
          rw is (subst (λ (r : ShiftRow). (r.start ≤ GREATEST_BOUND) × (r.length ≤ GREATEST_BOUND)) row small)
      | inr past ↦ let none : slice_get rows k ≡ None = past.1 in rw none (omega arith, omega arith)
    ]

moment_same : (date : Date) (days : ℕ) (on other : ℕ → Date) → IsCalendar date days on → IsCalendar date days other → (minutes : ℕ) → minutes / day_minutes < days → moment_text on minutes ≡ moment_text other minutes
moment_same date days on other here there minutes less =
    ap (λ d. d ++ 32 ∷ clock_text (minutes % day_minutes)) (agree date days on other here there (minutes / day_minutes) less)

shift_same : (P : Instance) (date : Date) (days : ℕ) (on other : ℕ → Date) → KeepsLimits P → IsCalendar date (days + MOST_DAYS_LATER) on → IsCalendar date (days + MOST_DAYS_LATER) other → (t : ℕ) (x : Symbol) → t < days → shift_line P on t x ≡ shift_line P other t x
shift_same P date days on other limits here there t x less =
    let small = row_small P.shifts (x.number - 1) limits.times in
    let start = t * day_minutes + start_of P x in
    let few_start : start / day_minutes < days + MOST_DAYS_LATER = omega (arith, less, small.0) in
    let few_end : (start + length_of P x) / day_minutes < days + MOST_DAYS_LATER = omega (arith, less, small.0, small.1) in
    ap (λ from. from ++ codes " to " ++ moment_text on (start + length_of P x) ++ 32 ∷ name_of P x ++ 10 ∷ []) (moment_same date (days + MOST_DAYS_LATER) on other here there start few_start)
    ∙ ap (λ to. moment_text other start ++ codes " to " ++ to ++ 32 ∷ name_of P x ++ 10 ∷ []) (moment_same date (days + MOST_DAYS_LATER) on other here there (start + length_of P x) few_end)

duty_same : (P : Instance) (date : Date) (days : ℕ) (on other : ℕ → Date) → KeepsLimits P → IsCalendar date (days + MOST_DAYS_LATER) on → IsCalendar date (days + MOST_DAYS_LATER) other → (t number : ℕ) → t < days → duty_line_of P on t number ≡ duty_line_of P other t number
duty_same P date days on other limits here there t zero less = refl
duty_same P date days on other limits here there t (suc x) less = shift_same P date days on other limits here there t (record { number = suc x }) less

pub one_duties : (P : Instance) (s : List Symbol) (date : Date) (days employee : ℕ) (text other : List ℕ) → KeepsLimits P → AreDuties P s date days employee text → AreDuties P s date days employee other → text ≡ other
one_duties P s date days employee text other limits a b =
    a.is
    ∙ lines_same (duty_line P s a.on employee) (duty_line P s b.on employee) 0 days
    (λ t less. duty_same P date days a.on b.on limits a.calendar b.calendar t (symbol_on P s employee t).number (omega (arith, less)))
    ∙ sym b.is
