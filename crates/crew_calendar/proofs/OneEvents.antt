-- The events of an employee's duties have one text.
use Rattle.std.proofs.Common.{◌≡◌, ℕ, zero, suc, ◌+◌, ◌-◌, ◌*◌, ◌/◌, ◌%◌, ◌<◌, List, [], ◌∷◌, ◌++◌, codes, refl, ap, sym, ◌∙◌, arith}
use Rattle.rwsp_terms.specs.declared.data.Symbol.{Symbol}
use Rattle.rwsp_terms.specs.Instance.{Instance, name_of, symbol_numbered}
use Rattle.rwsp_model.specs.Validity.{KeepsLimits}
use Rattle.crew_calendar.specs.declared.dates.TheConstants.{MOST_DAYS_LATER}
use Rattle.crew_calendar.specs.Crew.{symbol_on}
use Rattle.crew_calendar.specs.Calendar.{Date, IsCalendar}
use Rattle.crew_calendar.specs.Texts.{two_digits, day_minutes, start_of, length_of}
use Rattle.crew_calendar.specs.ContentLines.{content_text}
use Rattle.crew_calendar.specs.Events.{moment_at, opening_lines, time_lines, end_lines, start_line, closing_lines, event_lines, duty_events, events_on, first_lines, last_lines, AreEvents, HasNoDuty, HasDuty}
use Rattle.crew_calendar.proofs.OneText.{lines_same, row_small}
use Rattle.crew_calendar.proofs.EventLines.{one_compact, opening_same}

moment_alike : (date : Date) (days : ℕ) (on other : ℕ → Date) → IsCalendar date days on → IsCalendar date days other → (minutes : ℕ) → minutes / day_minutes < days → moment_at on minutes ≡ moment_at other minutes
moment_alike date days on other here there minutes less =
    let t = minutes / day_minutes in
    let m = minutes % day_minutes in
    ap (λ d. d ++ 84 ∷ two_digits (m / 60) ++ two_digits (m % 60) ++ codes "00") (one_compact (on t) (other t) (here t less ∙ sym (there t less)))

ends_alike : (date : Date) (days : ℕ) (on other : ℕ → Date) → IsCalendar date days on → IsCalendar date days other → (start length : ℕ) → (start + length) / day_minutes < days → end_lines on start length ≡ end_lines other start length
ends_alike date days on other here there start zero less = refl
ends_alike date days on other here there start (suc length) less = ap (λ m. (codes "DTEND:" ++ m) ∷ []) (moment_alike date days on other here there (start + suc length) less)

times_alike : (date : Date) (days : ℕ) (on other : ℕ → Date) → IsCalendar date days on → IsCalendar date days other → (start length : ℕ) → (start + length) / day_minutes < days → time_lines on start length ≡ time_lines other start length
times_alike date days on other here there start length less =
    ap (λ m. (codes "DTSTART:" ++ m) ∷ end_lines on start length) (moment_alike date days on other here there start (omega (arith, less)))
    ∙ ap (λ ls. start_line other start ∷ ls) (ends_alike date days on other here there start length less)

event_alike : (P : Instance) (date : Date) (days : ℕ) (on other : ℕ → Date) → KeepsLimits P → IsCalendar date (days + MOST_DAYS_LATER) on → IsCalendar date (days + MOST_DAYS_LATER) other → (e t : ℕ) (x : Symbol) → t < days → event_lines P date on e t x ≡ event_lines P date other e t x
event_alike P date days on other limits here there e t x less =
    let small = row_small P.shifts (x.number - 1) limits.times in
    let start = t * day_minutes + start_of P x in
    let few : (start + length_of P x) / day_minutes < days + MOST_DAYS_LATER = omega (arith, less, small.0, small.1) in
    let inside : t < days + MOST_DAYS_LATER = omega (arith, less) in
    ap (λ ls. ls ++ time_lines on start (length_of P x) ++ closing_lines (name_of P x)) (opening_same date (on t) (other t) e (here t inside ∙ sym (there t inside)))
    ∙ ap (λ ls. opening_lines date (other t) e ++ ls ++ closing_lines (name_of P x)) (times_alike date (days + MOST_DAYS_LATER) on other here there start (length_of P x) few)

day_alike : (P : Instance) (date : Date) (days : ℕ) (on other : ℕ → Date) → KeepsLimits P → IsCalendar date (days + MOST_DAYS_LATER) on → IsCalendar date (days + MOST_DAYS_LATER) other → (e t number : ℕ) → t < days → duty_events P date on e t number ≡ duty_events P date other e t number
day_alike P date days on other limits here there e t zero less = refl
day_alike P date days on other limits here there e t (suc x) less = event_alike P date days on other limits here there e t (symbol_numbered (suc x)) less

pub one_events : (P : Instance) (s : List Symbol) (date : Date) (days employee : ℕ) (text other : List ℕ) → KeepsLimits P → AreEvents P s date days employee text → AreEvents P s date days employee other → text ≡ other
one_events P s date days employee text other limits a b =
    a.is
    ∙ ap (λ ls. content_text (first_lines ++ ls ++ last_lines)) (lines_same (events_on P s date a.on employee) (events_on P s date b.on employee) 0 days
    (λ t less. day_alike P date days a.on b.on limits a.calendar b.calendar employee t (symbol_on P s employee t).number (omega (arith, less))))
    ∙ sym b.is

-- an employee has a duty or none
pub duty_or_none : (P : Instance) (s : List Symbol) (days employee : ℕ) → HasDuty P s days employee → HasNoDuty P s days employee → ⊥
duty_or_none P s days employee h none = let off = none h.0 h.1 in omega (arith, off, h.2)
