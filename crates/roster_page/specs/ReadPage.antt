-- How a page is read by a program that knows no more of HTML than the words that stand round the weeks and the cells:
-- it looks for these words in order, and takes what is between them.
use Rattle.std.specs.Prelude.{◌≡◌, ℕ, ◌+◌, List, [], ◌∷◌, length, drop, map, Bool, nat_eq, Option, Some, codes, if◌then◌else◌}
use Rattle.std.specs.List.{range_with_len, starts_with}
use Rattle.rwsp_text.specs.Numbers.{number_of}
use Rattle.rwsp_terms.specs.Instance.{Instance, name_of, symbol_of}
use Rattle.rwsp_terms.specs.declared.data.Symbol.{Symbol}
use Rattle.roster_print.specs.RosterText.{week_at}
use Rattle.roster_page.specs.Escaped.{unescaped}

-- Words in a text.

-- the text begins with the word
abbrev pub begins : (word : List ℕ) → List ℕ → Bool
begins word text = starts_with nat_eq text word

-- what is in front of the first place of a word; all of the text where the word isn't in it
unfoldable pub before : (word : List ℕ) → List ℕ → List ℕ
before word [] = []
before word (b ∷ text) = if begins word (b ∷ text) then [] else b ∷ before word text

-- what is behind the first place of a word; nothing where the word isn't in the text
unfoldable pub behind : (word : List ℕ) → List ℕ → List ℕ
behind word [] = []
behind word (b ∷ text) = if begins word (b ∷ text) then drop (length word) (b ∷ text) else behind word text

-- for each place of a word, what is from behind it up to the next
unfoldable pub parts : (word : List ℕ) → List ℕ → List (List ℕ)
parts word [] = []
parts word (b ∷ text) =
    if begins word (b ∷ text) then before word (drop (length word) (b ∷ text)) ∷ parts word text else parts word text

-- The roster in a page.

-- a day's cell: the number of the symbol, if there is one, and its name
pub record Cell : Type 0 where
  pub number : Option ℕ
  pub name : List ℕ

-- what `N">NAME</td>` says
abbrev pub cell_in : List ℕ → Cell
cell_in text =
    record {
      number = number_of (before (codes "\">") text);
      name = unescaped (before (codes "</td>") (behind (codes "\">") text));
    }

-- a week's row: the number of the week, if there is one, and the cells
pub record Row : Type 0 where
  pub week : Option ℕ
  pub cells : List Cell

-- what `WEEK</th>` says, with the cells behind it
abbrev pub row_in : List ℕ → Row
row_in text =
    record {
      week = number_of (before (codes "</th>") text);
      cells = map cell_in (parts (codes "<td class=\"c") text);
    }

-- the body of the first table
abbrev pub first_body : List ℕ → List ℕ
first_body text = before (codes "</tbody>") (behind (codes "<tbody>") text)

-- the rows of the weeks
abbrev pub rows_in : List ℕ → List Row
rows_in text = map row_in (parts (codes "<tr><th scope=\"row\">") (first_body text))

-- What they are to be.

abbrev pub cell_of : Instance → Symbol → Cell
cell_of P x = record { number = Some x.number; name = name_of P x }

-- the row of a week, where weeks count from 0
abbrev pub row_of : Instance → List Symbol → ℕ → Row
row_of P s k = record { week = Some (k + 1); cells = map (cell_of P) (week_at P s k) }

-- the symbols that the names in a row name
abbrev pub symbols_named : Instance → Row → List (Option Symbol)
symbols_named P row = map (λ (c : Cell). symbol_of P c.name) row.cells

-- read back from the text, the rows are the weeks of the roster, and by their names alone the cells are its symbols
pub record IsReadBack (P : Instance) (s : List Symbol) (text : List ℕ) : Type 0 where
  pub rows : rows_in text ≡ map (row_of P s) (range_with_len 0 P.weeks)
  pub names : map (symbols_named P) (rows_in text) ≡ map (λ k. map Some (week_at P s k)) (range_with_len 0 P.weeks)
