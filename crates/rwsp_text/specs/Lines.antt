-- The lines of a text, and the words of a line.
use Rattle.std.specs.Prelude.{◌≡◌, ◌≢◌, ◌⊎◌, ℕ, ◌+◌, ◌<◌, List, [], ◌∷◌, ◌++◌, Bool, true, false, ◌==◌, length, drop, All}
use Rattle.std.specs.List.{slice_split, AllByRecursion}
use Rattle.rwsp_text.specs.Fields.{Words, text_of}
use Rattle.rwsp_text.specs.Kinds.{AreBlankless}

abbrev pub is_blank : ℕ → Bool
is_blank b = b == 32

-- the words of a line without its LF: each ends at a blank, the last one at the end
abbrev pub words_of : List ℕ → Words
words_of body = slice_split is_blank body

-- the words of what is left, or none
abbrev pub words_left : List ℕ → Bool → Words
words_left bytes true = []
words_left bytes false = words_of bytes

-- the words behind the one that ends at place n
abbrev pub words_after : List ℕ → ℕ → Words
words_after bytes n = words_left (drop (n + 1) bytes) (n == length bytes)

abbrev pub rest_of : Words → Words
rest_of [] = []
rest_of (w ∷ ws) = ws

-- no byte is LF
abbrev pub HasNoFeed : List ℕ → Type 0
HasNoFeed bytes = All (λ b. b ≢ 10) bytes

-- the bytes are a line of a text with its LF, or the end of a text without one
abbrev pub IsNextLine : List ℕ → List ℕ → Type 0
IsNextLine line rest =
    ((body : List ℕ) × HasNoFeed body × (line ≡ body ++ 10 ∷ [])) ⊎ ((line ≢ []) × HasNoFeed line × (rest ≡ []))

-- a text by the words of its lines
abbrev pub text_of_lines : List Words → List ℕ
text_of_lines [] = []
text_of_lines (ws ∷ lines) = text_of ws ++ text_of_lines lines

-- a line has a word, and none of its words has a blank in it
abbrev pub AreWords : Words → Type 0
AreWords ws = (0 < length ws) × AreBlankless ws

abbrev pub AreLines : List Words → Type 0
AreLines lines = AllByRecursion AreWords lines

-- a text is read line by line to a front, and the line behind a good front has a cause to refuse the text
pub record IsRefusedBehind {F R : Type 0}
    (lines : F → List Words) (Good : F → Type 0) (Cause : F → List ℕ → R → Type 0)
    (text : List ℕ) (why : R) : Type 0 where
  pub front : F
  pub line : List ℕ
  pub rest : List ℕ
  pub good : Good front
  pub whole : text ≡ text_of_lines (lines front) ++ (line ++ rest)
  pub is_line : IsNextLine line rest
  pub cause : Cause front line why

-- what makes a text have one cause: good fronts are told apart by their lines, no line of a good front has a cause
-- behind an earlier one, and a line has one cause
pub record AreFronts {F R : Type 0}
    (lines : F → List Words) (Good : F → Type 0) (Cause : F → List ℕ → R → Type 0) : Type 0 where
  pub written : (f : F) → Good f → AreLines (lines f)
  pub same : (f g : F) → Good f → Good g → lines g ≡ lines f → f ≡ g
  pub fine : (f g : F) (z : Words) (zs : List Words) (why : R)
      → Good f → Good g → lines g ≡ lines f ++ z ∷ zs → Cause f (text_of z) why → ⊥
  pub one : (f : F) (line : List ℕ) (why other : R) → Cause f line why → Cause f line other → why ≡ other
