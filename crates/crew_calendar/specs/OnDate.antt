-- Who works on one date.
use Rattle.std.specs.Prelude.{◌≡◌, ℕ, ◌==◌, List, [], ◌∷◌, ◌++◌, pos, ◌+ℤ◌, if◌then◌else◌}
use Rattle.std.specs.List.{flat_map, range_with_len}
use Rattle.std.specs.Fmt.{decimal}
use Rattle.rwsp_terms.specs.Instance.{Instance, name_of, shift_count, symbol_numbered}
use Rattle.rwsp_terms.specs.declared.data.Symbol.{Symbol}
use Rattle.crew_calendar.specs.Crew.{employees, symbol_on}
use Rattle.crew_calendar.specs.Calendar.{Date, epoch_day, date_text, weekday_text}

-- the number of an employee after a blank, where he has the symbol on the day
abbrev pub holder_text : Instance → List Symbol → (t x e : ℕ) → List ℕ
holder_text P s t x e = if (symbol_on P s e t).number == x then 32 ∷ decimal e else []

-- the numbers of all who have it, ascending
abbrev pub holders_text : Instance → List Symbol → (t x : ℕ) → List ℕ
holders_text P s t x = flat_map (holder_text P s t x) (employees P)

-- the line of a symbol: its name, and who has it
abbrev pub symbol_line : Instance → List Symbol → (t x : ℕ) → List ℕ
symbol_line P s t x = name_of P (symbol_numbered x) ++ holders_text P s t x ++ 10 ∷ []

-- the lines of the shifts, in their order
abbrev pub shift_lines : Instance → List Symbol → ℕ → List ℕ
shift_lines P s t = flat_map (symbol_line P s t) (range_with_len 1 (shift_count P))

-- the date with its day of the week, the shifts, and the day off
abbrev pub on_text : Instance → List Symbol → Date → ℕ → List ℕ
on_text P s date t =
    date_text date ++ 32 ∷ weekday_text date ++ 10 ∷ [] ++ shift_lines P s t ++ symbol_line P s t 0

-- the text says who works on a date, where the roster's first day was the start
pub record IsOn (P : Instance) (s : List Symbol) (start date : Date) (text : List ℕ) : Type 0 where
  pub t : ℕ
  pub days : epoch_day date ≡ epoch_day start +ℤ pos t
  pub is : text ≡ on_text P s date t

-- who works on a date has one text
abbrev pub DatesHaveOneText : Type 0
DatesHaveOneText =
    (P : Instance) (s : List Symbol) (start date : Date) (text other : List ℕ)
    → IsOn P s start date text → IsOn P s start date other → text ≡ other
