-- Which texts spell a roster, and the text that is printed of one.
use Rattle.std.specs.Prelude.{◌≡◌, ℕ, ◌*◌, List, [], ◌∷◌, ◌++◌, length, Option, Some, map, filter, take, drop, All}
use Rattle.std.specs.List.{flat_map, range_with_len, join_with_byte}
use Rattle.rwsp_text.specs.Lexemes.{lines_of, words_of_line, has_some}
use Rattle.rwsp_terms.specs.Instance.{Instance, symbol_of, name_of}
use Rattle.rwsp_terms.specs.declared.data.Symbol.{Symbol}

-- the weeks of a text: the words of each line that has words
abbrev pub weeks_of : List ℕ → List (List (List ℕ))
weeks_of bytes = filter has_some (map words_of_line (lines_of bytes))

-- each week has a word for each day, and this is what the words say, week after week
pub record SpellsWeeks {A : Type 0} (P : Instance) (said : List ℕ → Option A) (bytes : List ℕ) (s : List A) : Type 0 where
  pub weeks : length (weeks_of bytes) ≡ P.weeks
  pub days : All (λ week. length week ≡ P.days) (weeks_of bytes)
  pub names : map said (flat_map (λ week. week) (weeks_of bytes)) ≡ map Some s

-- the words are the names of the cells
abbrev pub SpellsRoster : Instance → List ℕ → List Symbol → Type 0
SpellsRoster P = SpellsWeeks P (symbol_of P)

-- the cells of a week, where weeks count from 0
abbrev pub week_at : Instance → List Symbol → ℕ → List Symbol
week_at P s k = take P.days (drop (k * P.days) s)

-- the line of a week: the names of its symbols with single blanks between them, and a line feed
abbrev pub week_text : Instance → List Symbol → List ℕ
week_text P week = join_with_byte 32 (map (name_of P) week) ++ 10 ∷ []

-- a line for each week
abbrev pub roster_text : Instance → List Symbol → List ℕ
roster_text P s = flat_map (λ k. week_text P (week_at P s k)) (range_with_len 0 P.weeks)
