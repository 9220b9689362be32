-- The table of all employees for a spreadsheet.
use Rattle.std.specs.Prelude.{◌≡◌, ℕ, ◌+◌, List, [], ◌∷◌, ◌++◌, map, codes, Some}
use Rattle.std.specs.List.{range_with_len}
use Rattle.std.specs.Fmt.{decimal}
use Rattle.rwsp_terms.specs.Instance.{Instance, name_of}
use Rattle.rwsp_terms.specs.declared.data.Symbol.{Symbol}
use Rattle.rwsp_model.specs.Validity.{KeepsLimits}
use Rattle.crew_calendar.specs.declared.dates.TheConstants.{MOST_DAYS_LATER}
use Rattle.crew_calendar.specs.Crew.{employees, symbol_on}
use Rattle.crew_calendar.specs.Calendar.{Date, date_text, weekday_text, IsCalendar, OnCalendar}
use Rattle.crew_calendar.specs.Texts.{IsTable}
use Rattle.crew_calendar.specs.ReadDates.{lines_read}
use Rattle.crew_calendar.specs.Csv.{Record, records_text, records_in}

-- the head: the number of each employee
abbrev pub head_cells : Instance → Record
head_cells P = codes "date" ∷ codes "weekday" ∷ map decimal (employees P)

-- the name of an employee's symbol on a day
abbrev pub cell : Instance → List Symbol → (t e : ℕ) → List ℕ
cell P s t e = name_of P (symbol_on P s e t)

-- a day: its date, the day of the week, and the symbol of each employee
abbrev pub day_cells : Instance → List Symbol → (ℕ → Date) → ℕ → Record
day_cells P s on t = date_text (on t) ∷ weekday_text (on t) ∷ map (cell P s t) (employees P)

-- the head, and a record for each day
abbrev pub sheet_records : Instance → List Symbol → (ℕ → Date) → ℕ → List Record
sheet_records P s on days = head_cells P ∷ map (day_cells P s on) (range_with_len 0 days)

-- the text is the table of this number of days from the date on
pub record IsSheet (P : Instance) (s : List Symbol) (date : Date) (days : ℕ) (text : List ℕ) : Type 0 where
  pub on : ℕ → Date
  pub calendar : IsCalendar date (days + MOST_DAYS_LATER) on
  pub is : text ≡ records_text (sheet_records P s on days)

-- a sheet has one text
abbrev pub SheetsAreOne : Type 0
SheetsAreOne =
    (P : Instance) (s : List Symbol) (date : Date) (days : ℕ) (text other : List ℕ)
    → IsSheet P s date days text → IsSheet P s date days other → text ≡ other

-- the records of a sheet, read back from its text, are the head and the days
abbrev pub SheetsAreReadBack : Type 0
SheetsAreReadBack =
    (P : Instance) (s : List Symbol) (date : Date) (days : ℕ) (text : List ℕ) → IsSheet P s date days text
    → OnCalendar date (days + MOST_DAYS_LATER) (λ on. records_in text ≡ Some (sheet_records P s on days))

-- a record of a day without the day of the week
abbrev pub without_weekday : Record → Record
without_weekday (date ∷ weekday ∷ cells) = date ∷ cells
without_weekday cells = cells

-- the days of a sheet, read back without their days of the week, are the lines of the table of the same days, read back
-- as words; nothing is behind the table's last line
abbrev pub SheetsAreAsTables : Type 0
SheetsAreAsTables =
    (P : Instance) (s : List Symbol) (date : Date) (days : ℕ) (sheet table : List ℕ)
    → KeepsLimits P → IsSheet P s date days sheet → IsTable P s date days table
    → (rows : List Record) × (records_in sheet ≡ Some (head_cells P ∷ rows))
    × (lines_read table ≡ map without_weekday rows ++ ([] ∷ []) ∷ [])
