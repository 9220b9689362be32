-- How a table of `crew` and a text of `on` are read by one who knows lines, the words between blanks, and numbers. Both
-- say the same of each employee.
use Rattle.std.specs.Prelude.{◌≡◌, ℕ, ◌<◌, pos, ◌+ℤ◌, List, slice_get, map, Some}
use Rattle.rwsp_terms.specs.Instance.{Instance}
use Rattle.rwsp_terms.specs.Roster.{IsRoster}
use Rattle.rwsp_terms.specs.declared.data.Symbol.{Symbol}
use Rattle.rwsp_text.specs.Fields.{Words}
use Rattle.rwsp_text.specs.Lexemes.{lines_of}
use Rattle.rwsp_text.specs.Lines.{words_of, rest_of}
use Rattle.rwsp_text.specs.Numbers.{number_of}
use Rattle.rwsp_model.specs.Validity.{KeepsLimits}
use Rattle.crew_calendar.specs.Crew.{IsEmployee}
use Rattle.crew_calendar.specs.Calendar.{Date, epoch_day, date_text}
use Rattle.crew_calendar.specs.Texts.{IsTable}
use Rattle.crew_calendar.specs.OnDate.{IsOn}

-- the lines of a text, each as its words
abbrev pub lines_read : List ℕ → List Words
lines_read text = map words_of (lines_of text)

-- the table has a line for the date, and word e behind the date is the name
pub record IsNamed (table : List ℕ) (date : Date) (e : ℕ) (name : List ℕ) : Type 0 where
  pub place : ℕ
  pub line : Words
  pub is_line : slice_get (lines_read table) place ≡ Some line
  pub dated : slice_get line 0 ≡ Some (date_text date)
  pub named : slice_get line e ≡ Some name

-- the number e is one of the words behind the first of a line
abbrev pub HasNumber : Words → ℕ → Type 0
HasNumber line e = (k : ℕ) × (slice_get (map number_of (rest_of line)) k ≡ Some (Some e))

-- line i of the text begins with the name, and e is one of the numbers behind it
pub record StandsAt (text : List ℕ) (i e : ℕ) (name : List ℕ) : Type 0 where
  pub line : Words
  pub is_line : slice_get (lines_read text) i ≡ Some line
  pub named : slice_get line 0 ≡ Some name
  pub has : HasNumber line e

-- e stands in one line of the text, which begins with the name
pub record StandsUnder (text : List ℕ) (e : ℕ) (name : List ℕ) : Type 0 where
  pub place : ℕ
  pub stands : StandsAt text place e name
  pub only : (i : ℕ) (other : List ℕ) → StandsAt text i e other → i ≡ place

-- the name that the table has for an employee on a date is that of the line of `on` in which his number stands, and it
-- stands in no other
abbrev pub DatesAreAsInTables : Type 0
DatesAreAsInTables =
    (P : Instance) (s : List Symbol) (start date : Date) (days t e : ℕ) (table text : List ℕ)
    → KeepsLimits P → IsRoster P s → IsTable P s start days table → IsOn P s start date text
    → epoch_day date ≡ epoch_day start +ℤ pos t → t < days → IsEmployee P e
    → (name : List ℕ) × IsNamed table date e name × StandsUnder text e name
