-- An employee's duties as an iCalendar (RFC 5545).
use Rattle.std.specs.Prelude.{◌≡◌, ℕ, zero, suc, ◌+◌, ◌*◌, ◌/◌, ◌%◌, ◌<◌, List, [], ◌∷◌, ◌++◌, codes, unsigned_abs}
use Rattle.std.specs.List.{flat_map, range_with_len}
use Rattle.std.specs.Fmt.{decimal}
use Rattle.rwsp_terms.specs.Instance.{Instance, name_of, symbol_numbered}
use Rattle.rwsp_terms.specs.declared.data.Symbol.{Symbol}
use Rattle.crew_calendar.specs.declared.dates.TheConstants.{MOST_DAYS_LATER}
use Rattle.crew_calendar.specs.Crew.{symbol_on}
use Rattle.crew_calendar.specs.Calendar.{Date, IsCalendar}
use Rattle.crew_calendar.specs.Texts.{two_digits, day_minutes, start_of, length_of}
use Rattle.shown_names.specs.ShownNames.{shown}
use Rattle.crew_calendar.specs.ContentLines.{escaped, content_text}

-- a date of the years 0 to 9999, `YYYYMMDD`
abbrev pub compact_date : Date → List ℕ
compact_date date =
    two_digits (unsigned_abs date.year / 100) ++ two_digits (unsigned_abs date.year % 100)
    ++ two_digits date.month ++ two_digits date.day

-- a date and a time of day in minutes, `YYYYMMDDTHHMM00`
abbrev pub compact_moment : Date → ℕ → List ℕ
compact_moment date minutes =
    compact_date date ++ 84 ∷ two_digits (minutes / 60) ++ two_digits (minutes % 60) ++ codes "00"

-- the moment that is this many minutes after the first date's midnight
abbrev pub moment_at : (ℕ → Date) → ℕ → List ℕ
moment_at on minutes = compact_moment (on (minutes / day_minutes)) (minutes % day_minutes)

-- the number of an employee and the date of a duty: no other duty has them
abbrev pub uid_line : ℕ → Date → List ℕ
uid_line e date = codes "UID:" ++ decimal e ++ 45 ∷ compact_date date ++ codes "@rwsp"

-- midnight of a date, as UTC
abbrev pub stamp_line : Date → List ℕ
stamp_line date = codes "DTSTAMP:" ++ compact_moment date 0 ++ 90 ∷ []

abbrev pub start_line : (ℕ → Date) → ℕ → List ℕ
start_line on minutes = codes "DTSTART:" ++ moment_at on minutes

abbrev pub end_line : (ℕ → Date) → ℕ → List ℕ
end_line on minutes = codes "DTEND:" ++ moment_at on minutes

-- a shift without a length has no end
abbrev pub end_lines : (ℕ → Date) → (start length : ℕ) → List (List ℕ)
end_lines on start zero = []
end_lines on start (suc length) = end_line on (start + suc length) ∷ []

abbrev pub summary_line : List ℕ → List ℕ
summary_line name = codes "SUMMARY:" ++ escaped (shown name)

-- what comes before the times of an event, and what comes behind them
abbrev pub opening_lines : (first date : Date) → (e : ℕ) → List (List ℕ)
opening_lines first date e = codes "BEGIN:VEVENT" ∷ uid_line e date ∷ stamp_line first ∷ []

abbrev pub closing_lines : List ℕ → List (List ℕ)
closing_lines name = summary_line name ∷ codes "END:VEVENT" ∷ []

abbrev pub time_lines : (ℕ → Date) → (start length : ℕ) → List (List ℕ)
time_lines on start length = start_line on start ∷ end_lines on start length

-- the event of a shift that begins on day t after the first date
abbrev pub event_lines : Instance → Date → (ℕ → Date) → (e t : ℕ) → Symbol → List (List ℕ)
event_lines P first on e t x =
    opening_lines first (on t) e ++ time_lines on (t * day_minutes + start_of P x) (length_of P x)
    ++ closing_lines (name_of P x)

-- a day off has none
abbrev pub duty_events : Instance → Date → (ℕ → Date) → (e t number : ℕ) → List (List ℕ)
duty_events P first on e t zero = []
duty_events P first on e t (suc x) = event_lines P first on e t (symbol_numbered (suc x))

abbrev pub events_on : Instance → List Symbol → Date → (ℕ → Date) → (e t : ℕ) → List (List ℕ)
events_on P s first on e t = duty_events P first on e t (symbol_on P s e t).number

-- what is at the beginning of the calendar
abbrev pub first_lines : List (List ℕ)
first_lines = codes "BEGIN:VCALENDAR" ∷ codes "VERSION:2.0" ∷ codes "PRODID:-//rwsp//crew calendar//EN" ∷ []

abbrev pub last_lines : List (List ℕ)
last_lines = codes "END:VCALENDAR" ∷ []

-- the lines of an employee's calendar on some days
abbrev pub calendar_lines : Instance → List Symbol → Date → (ℕ → Date) → (e days : ℕ) → List (List ℕ)
calendar_lines P s first on e days =
    first_lines ++ flat_map (events_on P s first on e) (range_with_len 0 days) ++ last_lines

-- the text is the calendar of an employee's duties on this number of days from the date on
pub record AreEvents (P : Instance) (s : List Symbol) (date : Date) (days employee : ℕ) (text : List ℕ) : Type 0 where
  pub on : ℕ → Date
  pub calendar : IsCalendar date (days + MOST_DAYS_LATER) on
  pub is : text ≡ content_text (calendar_lines P s date on employee days)

-- the employee has no duty on these days
abbrev pub HasNoDuty : Instance → List Symbol → (days employee : ℕ) → Type 0
HasNoDuty P s days e = (t : ℕ) → t < days → (symbol_on P s e t).number ≡ 0

-- he has one
abbrev pub HasDuty : Instance → List Symbol → (days employee : ℕ) → Type 0
HasDuty P s days e = (t : ℕ) × (t < days) × (0 < (symbol_on P s e t).number)
