-- The dates of days in a row, and the words that name a date.
use Rattle.std.specs.Prelude.{◌≡◌, ℕ, ◌+◌, ◌<◌, ℤ, pos, ◌+ℤ◌, ◌≤ℤ◌, List, [], ◌∷◌, codes, slice_index_or}
use Rattle.jiff_core.specs.declared.civil.weekday.Weekday.{Weekday}
use Rattle.jiff_core.specs.Weekday.{monday_zero}
use Rattle.jiff_core.specs.Date.{weekday_of}
use Rattle.jiff_core.specs.Calendar.{days_from_civil, IsBetween}
use Rattle.crew_calendar.specs.declared.dates.TheConstants.{MOST_DAYS_LATER}
-- a date, the number of its day, and its text YYYY-MM-DD, as `jiff` has them
pub use Rattle.jiff_core.specs.declared.civil.date.Date.{Date}
pub use Rattle.jiff_core.specs.Date.{epoch_day}
pub use Rattle.jiff_fmt.specs.Text.{date_text}

-- the day number of the last date, 9999-12-31
abbrev pub last_day : ℤ
last_day = days_from_civil (pos 9999) 12 31

-- the date that many days later is not after the last one
abbrev pub IsWithinDates : Date → ℕ → Type 0
IsWithinDates date days = (epoch_day date +ℤ pos days) ≤ℤ last_day

-- the days that the calendar needs are there
abbrev pub FitsDates : Date → ℕ → Type 0
FitsDates date days = IsWithinDates date (days + MOST_DAYS_LATER)

-- day t, from 0 on, has the date that is t days after the first
abbrev pub IsCalendar : Date → ℕ → (ℕ → Date) → Type 0
IsCalendar date days on = (t : ℕ) → t < days → epoch_day (on t) ≡ epoch_day date +ℤ pos t

-- a date of the years 0 to 9999
abbrev pub IsCivil : Date → Type 0
IsCivil date = IsBetween (pos 0) (pos 9999) date.year

-- the word YYYY-MM-DD names the date
abbrev pub IsDateWord : List ℕ → Date → Type 0
IsDateWord word date = IsCivil date × (word ≡ date_text date)

-- what holds of each calendar of this number of days that begins with the date
abbrev pub OnCalendar : Date → ℕ → ((ℕ → Date) → Type 0) → Type 0
OnCalendar date days Q = (on : ℕ → Date) → IsCalendar date days on → Q on

-- the date is the other one or comes after it
abbrev pub IsNotBefore : (start date : Date) → Type 0
IsNotBefore start date = epoch_day start ≤ℤ epoch_day date

-- the English names of the days of the week
abbrev pub weekday_names : List (List ℕ)
weekday_names =
    codes "Monday" ∷ codes "Tuesday" ∷ codes "Wednesday" ∷ codes "Thursday" ∷ codes "Friday" ∷ codes "Saturday"
    ∷ codes "Sunday" ∷ []

-- the name of a day of the week
abbrev pub weekday_name : Weekday → List ℕ
weekday_name day = slice_index_or weekday_names (monday_zero day) []

-- the name of a date's day of the week
abbrev pub weekday_text : Date → List ℕ
weekday_text date = slice_index_or weekday_names (weekday_of date) []
