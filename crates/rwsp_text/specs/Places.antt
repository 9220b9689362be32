-- Where the lexemes of a text are.
use Rattle.std.specs.Prelude.{ℕ, ◌≤◌, List, length, Bool, not, ◌==◌, ◌&&◌, slice_range}
use Rattle.std.specs.List.{AllByRecursion}
use Rattle.rwsp_text.specs.Lexemes.{Lexeme, is_space}
use Rattle.rwsp_text.specs.declared.scan.Token.{Token}

-- a byte that a word may have
abbrev pub is_word_byte : ℕ → Bool
is_word_byte b = not (is_space b) && not (b == 10)

-- a byte that doesn't end a line
abbrev pub is_no_line_end : ℕ → Bool
is_no_line_end b = not (b == 10)

-- the lexeme that a token names
abbrev pub lexeme_at : List ℕ → Token → Lexeme
lexeme_at bytes t = record { text = slice_range bytes t.start t.end; line = t.line }

-- the token is within the text
abbrev pub IsWithin : List ℕ → Token → Type 0
IsWithin text t = (t.start ≤ t.end) × (t.end ≤ length text)

-- each token is within the text
abbrev pub AreWithin : List ℕ → List Token → Type 0
AreWithin text tokens = AllByRecursion (IsWithin text) tokens
