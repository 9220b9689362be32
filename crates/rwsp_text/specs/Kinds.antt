-- Kinds of lines. A table lists the kinds of lines of a text.
use Rattle.std.specs.Prelude.{◌≡◌, ◌⊎◌, ℕ, ◌<◌, ◌≤◌, ◌^◌, List, [], ◌∷◌, All, Option, Some, None, true, false, cond}
use Rattle.std.specs.Str.{bytes_eq}
use Rattle.rwsp_text.specs.Fields.{Words, Field, Word, Number, Name, Choice, Place, Rules, Weights, Cells, Values, Says, read, numeral, is_name, is_visible}

-- a kind of line: its first word, the fields behind it, and what they say
pub record Kind (X : Type 0) : Type 0 where
  pub word : List ℕ
  pub fields : List Field
  pub make : Values fields → X

-- the words are a line of this kind
abbrev pub IsOfKind : {X : Type 0} → Kind X → Words → X → Type 0
IsOfKind kind [] x = ⊥
IsOfKind kind (w ∷ ws) x = (w ≡ kind.word) × Says kind.fields kind.make ws x

-- they are a line of a kind of the table
abbrev pub IsLine : {X : Type 0} → List (Kind X) → Words → X → Type 0
IsLine [] ws x = ⊥
IsLine (kind ∷ table) ws x = IsOfKind kind ws x ⊎ IsLine table ws x

-- a line is read by its first word
abbrev pub read_by : {X : Type 0} → List (Kind X) → List ℕ → Words → Option X
read_by [] w ws = None
read_by (kind ∷ table) w ws = cond (bytes_eq w kind.word) (read kind.fields kind.make ws) (read_by table w ws)

unfoldable pub read_line : {X : Type 0} → List (Kind X) → Words → Option X
read_line table [] = None
read_line table (w ∷ ws) = read_by table w ws

-- Which tables can be read: numbers have up to 19 digits, words are words, and each field is known to end.

-- what follows a list of numbers is nothing or a word that is no number
abbrev pub ClosesNumbers : List Field → Type 0
ClosesNumbers [] = Unit {0}
ClosesNumbers (Word word ∷ fields) = numeral word ≡ None
ClosesNumbers fields = ⊥

-- weights and cells reach to the end of the line
abbrev pub ClosesLine : List Field → Type 0
ClosesLine [] = Unit {0}
ClosesLine fields = ⊥

abbrev pub AreReadable : List Field → Type 0
AreReadable [] = Unit {0}
AreReadable (Word word ∷ fields) = (is_name word ≡ true) × AreReadable fields
AreReadable (Number least greatest ∷ fields) = (greatest < 10 ^ 19) × AreReadable fields
AreReadable (Name ∷ fields) = AreReadable fields
AreReadable (Choice one other ∷ fields) =
    ((is_name one ≡ true) × (is_name other ≡ true) × (bytes_eq other one ≡ false)) × AreReadable fields
AreReadable (Place weeks days ∷ fields) = ((weeks < 10 ^ 19) × (days < 10 ^ 19)) × AreReadable fields
AreReadable (Rules greatest ∷ fields) = ((greatest < 10 ^ 19) × ClosesNumbers fields) × AreReadable fields
AreReadable (Weights days greatest ∷ fields) =
    ((days < 10 ^ 19) × ((1 ≤ greatest) × (greatest < 10 ^ 19)) × ClosesLine fields) × AreReadable fields
AreReadable (Cells weeks days ∷ fields) =
    ((weeks < 10 ^ 19) × (days < 10 ^ 19) × ClosesLine fields) × AreReadable fields

-- no kind of the table begins with the word
abbrev pub IsFree : {X : Type 0} → List ℕ → List (Kind X) → Type 0
IsFree w [] = Unit {0}
IsFree w (kind ∷ table) = (bytes_eq kind.word w ≡ false) × IsFree w table

-- each kind has fields that can be read, and a first word of its own
abbrev pub IsReadable : {X : Type 0} → List (Kind X) → Type 0
IsReadable [] = Unit {0}
IsReadable (kind ∷ table) =
    (AreReadable kind.fields × (is_name kind.word ≡ true) × IsFree kind.word table) × IsReadable table

-- no blank, tab, CR or LF
abbrev pub IsBlankless : List ℕ → Type 0
IsBlankless word = All (λ b. is_visible b ≡ true) word

abbrev pub AreBlankless : Words → Type 0
AreBlankless [] = Unit {0}
AreBlankless (w ∷ ws) = IsBlankless w × AreBlankless ws

-- Laws of every table that can be read.

-- a line is read as what it says, and what is read is a line that says it
abbrev pub LinesAreRead : (X : Type 0) → Type 0
LinesAreRead X =
    (table : List (Kind X)) (ws : Words) (x : X) → IsReadable table
    → (IsLine table ws x → read_line table ws ≡ Some x) × (read_line table ws ≡ Some x → IsLine table ws x)

-- a line says one thing
abbrev pub LinesSayOne : (X : Type 0) → Type 0
LinesSayOne X =
    (table : List (Kind X)) (ws : Words) (x y : X) → IsReadable table
    → IsLine table ws x → IsLine table ws y → x ≡ y

-- no word of a line has a blank in it
abbrev pub LinesAreBlankless : (X : Type 0) → Type 0
LinesAreBlankless X =
    (table : List (Kind X)) (ws : Words) (x : X) → IsReadable table → IsLine table ws x → AreBlankless ws
