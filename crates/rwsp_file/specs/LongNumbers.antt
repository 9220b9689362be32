-- The shifts whose long name is a number: their lines may have been meant otherwise.
use Rattle.std.specs.Prelude.{ℕ, List, [], Option, Some, None, Result, Ok, Err}
use Rattle.std.specs.Option.{option_to_list}
use Rattle.std.specs.List.{flat_map}
use Rattle.rwsp_text.specs.Lexemes.{Lexeme}
use Rattle.rwsp_text.specs.Numbers.{number_of}
use Rattle.rwsp_file.specs.declared.misfit.Misfit.{Misfit}
use Rattle.rwsp_file.specs.declared.row.RowWords.{RowWords}
use Rattle.rwsp_file.specs.declared.long_numbers.LongNumber.{LongNumber}
use Rattle.rwsp_file.specs.Reading.{Unread, ◌>>=◌, size_at, demand_rows_at, row_words_at, many, each, unread_of}

-- the number that a word spells, where there is a word
abbrev pub number_in : Option Lexeme → Option ℕ
number_in None = None
number_in (Some w) = number_of w.text

abbrev pub with_numbers : (line shift : ℕ) → (long_name least greatest : Option ℕ) → Option LongNumber
with_numbers line shift (Some long_name) (Some least) (Some greatest) =
    Some (record { line = line; shift = shift; long_name = long_name; least = least; greatest = greatest })
with_numbers line shift long_name least greatest = None

-- the long name of a shift's line and the two words behind it, where all three are numbers
abbrev pub long_number : ℕ → RowWords → Option LongNumber
long_number shift words =
    with_numbers words.name.line shift (number_in words.long_name) (number_of words.least.text)
    (number_of words.greatest.text)

unfoldable pub long_number_at : ℕ → Unread → Result (Option LongNumber × Unread) Misfit
long_number_at shift u = do
  words ← row_words_at shift u
  Ok (long_number shift words.0, words.1)

-- those of all shifts
unfoldable pub long_numbers_at : Unread → Result (List LongNumber) Misfit
long_numbers_at u = do
  size ← size_at u
  demand ← demand_rows_at size.0 size.1
  rows ← many (each long_number_at) size.0.shifts [] demand.1
  Ok (flat_map option_to_list rows.0)

abbrev pub all_or_none : Result (List LongNumber) Misfit → List LongNumber
all_or_none (Ok numbers) = numbers
all_or_none (Err misfit) = []

-- those of a text, in order; none where the words of the shifts can't be read
abbrev pub long_numbers : List ℕ → List LongNumber
long_numbers bytes = all_or_none (long_numbers_at (unread_of bytes))
