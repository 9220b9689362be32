-- The lexemes of a text: its words without the comments, each with the number of its line.
use Rattle.std.specs.Prelude.{ℕ, List, [], ◌∷◌, Bool, true, false, not, ◌||◌, ◌==◌, slice_index, map, filter, take_while, length}
use Rattle.std.specs.List.{slice_split, flat_map, enumerate_from}

pub record Lexeme : Type 0 where
  pub text : List ℕ
  pub line : ℕ

-- a blank, a tab or a return
abbrev pub is_space : ℕ → Bool
is_space b = (b == 32) || (b == 9) || (b == 13)

abbrev pub has_some : {X : Type 0} → List X → Bool
has_some [] = false
has_some (x ∷ xs) = true

-- the lines of a text, which end at line feeds
abbrev pub lines_of : List ℕ → List (List ℕ)
lines_of bytes = slice_split (λ b. b == 10) bytes

-- the words of a line, up to the first that begins with `#`
abbrev pub words_of_line : List ℕ → List (List ℕ)
words_of_line line = take_while (λ word. not (slice_index word 0 == 35)) (filter has_some (slice_split is_space line))

-- the lexemes of a text whose first line has the number
abbrev pub lexemes_from : ℕ → List ℕ → List Lexeme
lexemes_from n bytes =
    flat_map
    (λ l. map (λ word. record { text = word; line = l.0 }) (words_of_line l.1))
    (enumerate_from n (lines_of bytes))

-- the lexemes of a text
abbrev pub lexemes : List ℕ → List Lexeme
lexemes bytes = lexemes_from 1 bytes

-- the number of the line on which a text ends
abbrev pub last_line : List ℕ → ℕ
last_line bytes = length (lines_of bytes)
