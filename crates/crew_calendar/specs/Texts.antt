-- The texts of the crew's calendar.
use Rattle.std.specs.Prelude.{◌≡◌, ℕ, zero, suc, ◌+◌, ◌*◌, ◌/◌, ◌%◌, List, [], ◌∷◌, ◌++◌, codes}
use Rattle.std.specs.List.{flat_map, range_with_len}
use Rattle.rwsp_terms.specs.Instance.{Instance, name_of}
use Rattle.rwsp_terms.specs.declared.data.Symbol.{Symbol}
use Rattle.crew_calendar.specs.Crew.{employees, symbol_on}
use Rattle.crew_calendar.specs.declared.dates.TheConstants.{MOST_DAYS_LATER}
use Rattle.crew_calendar.specs.Calendar.{Date, date_text, IsCalendar}
-- the minutes of a day, when a shift starts, and how many minutes it has
pub use Rattle.rwsp_terms.specs.Times.{day_minutes, start_in, length_in, start_of, length_of}

-- the names of the symbols of all employees on a day, each after a blank
abbrev pub crew_text : Instance → List Symbol → ℕ → List ℕ
crew_text P s t = flat_map (λ e. 32 ∷ name_of P (symbol_on P s e t)) (employees P)

-- the line of a day: its date, then the crew
abbrev pub day_line : Instance → List Symbol → (ℕ → Date) → ℕ → List ℕ
day_line P s on t = date_text (on t) ++ crew_text P s t ++ 10 ∷ []

-- a line for each day
abbrev pub table_text : Instance → List Symbol → (ℕ → Date) → ℕ → List ℕ
table_text P s on days = flat_map (day_line P s on) (range_with_len 0 days)

-- a number below 100, in two digits
abbrev pub two_digits : ℕ → List ℕ
two_digits n = (48 + n / 10) ∷ (48 + n % 10) ∷ []

-- the time of day, `HH:MM`
abbrev pub clock_text : ℕ → List ℕ
clock_text minutes = two_digits (minutes / 60) ++ 58 ∷ two_digits (minutes % 60)

-- the date and the time, given in minutes after the first date's midnight
abbrev pub moment_text : (ℕ → Date) → ℕ → List ℕ
moment_text on minutes = date_text (on (minutes / day_minutes)) ++ 32 ∷ clock_text (minutes % day_minutes)

-- the line of a shift that begins on day t
abbrev pub shift_line : Instance → (ℕ → Date) → ℕ → Symbol → List ℕ
shift_line P on t x =
    let start = t * day_minutes + start_of P x in
    moment_text on start ++ codes " to " ++ moment_text on (start + length_of P x) ++ 32 ∷ name_of P x ++ 10 ∷ []

-- a day off has no line
abbrev pub duty_line_of : Instance → (ℕ → Date) → ℕ → (number : ℕ) → List ℕ
duty_line_of P on t zero = []
duty_line_of P on t (suc x) = shift_line P on t (record { number = suc x })

abbrev pub duty_line : Instance → List Symbol → (ℕ → Date) → ℕ → ℕ → List ℕ
duty_line P s on e t = duty_line_of P on t (symbol_on P s e t).number

-- the lines of an employee's shifts
abbrev pub duties_text : Instance → List Symbol → (ℕ → Date) → ℕ → ℕ → List ℕ
duties_text P s on e days = flat_map (duty_line P s on e) (range_with_len 0 days)

-- the text is the table of this number of days from the date on
pub record IsTable (P : Instance) (s : List Symbol) (date : Date) (days : ℕ) (text : List ℕ) : Type 0 where
  pub on : ℕ → Date
  pub calendar : IsCalendar date (days + MOST_DAYS_LATER) on
  pub is : text ≡ table_text P s on days

-- the text is the employee's duties on this number of days from the date on
pub record AreDuties (P : Instance) (s : List Symbol) (date : Date) (days employee : ℕ) (text : List ℕ) : Type 0 where
  pub on : ℕ → Date
  pub calendar : IsCalendar date (days + MOST_DAYS_LATER) on
  pub is : text ≡ duties_text P s on employee days
