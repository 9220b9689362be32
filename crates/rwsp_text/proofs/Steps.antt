-- What one byte, a word or a comment at the front of a text adds to its lexemes.
use Rattle.std.specs.Prelude.{◌≡◌, ℕ, ◌+◌, List, [], ◌∷◌, ◌++◌, IsTrue, true, false, ◌==◌, ◌||◌}
use Rattle.std.specs.List.{AllByRecursion}
use Rattle.rwsp_text.specs.Lexemes.{is_space, lexemes_from}

-- what `is_word_byte` tests
abbrev pub IsWordByte : ℕ → Type 0
IsWordByte b = (is_space b ≡ false) × ((b == 10) ≡ false)

-- what `is_no_line_end` tests
abbrev pub IsNoLineEnd : ℕ → Type 0
IsNoLineEnd b = (b == 10) ≡ false

-- nothing, or a byte that no word has
abbrev pub Ends : List ℕ → Type 0
Ends [] = Unit {0}
Ends (b ∷ bs) = IsTrue (is_space b || (b == 10))

-- nothing, or the end of a line
abbrev pub EndsLine : List ℕ → Type 0
EndsLine [] = Unit {0}
EndsLine (b ∷ bs) = b ≡ 10

abbrev pub AtLineEnd : Type 0
AtLineEnd = (n : ℕ) (bs : List ℕ) → lexemes_from n (10 ∷ bs) ≡ lexemes_from (n + 1) bs

abbrev pub AtSpace : Type 0
AtSpace = (n b : ℕ) (bs : List ℕ) → is_space b ≡ true → lexemes_from n (b ∷ bs) ≡ lexemes_from n bs

abbrev pub AtWord : Type 0
AtWord = (n b : ℕ) (t bs : List ℕ) → (b == 35) ≡ false → AllByRecursion IsWordByte (b ∷ t) → Ends bs → lexemes_from n ((b ∷ t) ++ bs) ≡ record { text = b ∷ t; line = n } ∷ lexemes_from n bs

abbrev pub AtComment : Type 0
AtComment = (n : ℕ) (t bs : List ℕ) → AllByRecursion IsNoLineEnd t → EndsLine bs → lexemes_from n ((35 ∷ t) ++ bs) ≡ lexemes_from n bs
