-- The lines of an iCalendar (RFC 5545): how a text is escaped in them, how a long one is folded, and how they are read.
use Rattle.std.specs.Prelude.{◌≡◌, ◌≢◌, ℕ, zero, suc, ◌+◌, ◌≤◌, ◌==◌, List, [], ◌∷◌, ◌++◌, length, take, All, Bool, true, false, ◌||◌, nat_lt, nat_le, if◌then◌else◌}
use Rattle.std.specs.List.{flat_map}
use Rattle.std.specs.Str.{bytes_eq}
use Rattle.crew_calendar.specs.declared.content_lines.TheConstants.{LONGEST_ROW}

-- a backslash, a comma or a semicolon
abbrev pub is_special : ℕ → Bool
is_special b = b == 92 || b == 44 || b == 59

-- stands behind a backslash
abbrev pub escape : ℕ → List ℕ
escape b = if is_special b then 92 ∷ b ∷ [] else b ∷ []

-- a text, escaped
abbrev pub escaped : List ℕ → List ℕ
escaped text = flat_map escape text

-- as many bytes as the character has that this byte begins, where it begins one
abbrev pub width : ℕ → ℕ
width b = if nat_lt b 192 then 1 else (if nat_lt b 224 then 2 else (if nat_lt b 240 then 3 else 4))

-- the byte has room in its row, together with the rest of its character
abbrev pub has_room : (column b : ℕ) → Bool
has_room column b = nat_le (column + width b) LONGEST_ROW

-- a line in rows, where the first row has some bytes already: before a byte without room a row ends by CR LF, and the
-- next one begins with a blank
unfoldable pub folded_from : (column : ℕ) → List ℕ → List ℕ
folded_from column [] = []
folded_from column (b ∷ line) =
    if has_room column b then b ∷ folded_from (column + 1) line
    else 13 ∷ 10 ∷ 32 ∷ b ∷ folded_from 2 line

-- a line as it is written: folded, with CR LF at its end
abbrev pub content_line : List ℕ → List ℕ
content_line line = folded_from 0 line ++ 13 ∷ 10 ∷ []

-- the lines
abbrev pub content_text : List (List ℕ) → List ℕ
content_text lines = flat_map content_line lines

-- Reading.

-- CR LF and a blank stand here
abbrev pub begins_with_fold : List ℕ → Bool
begins_with_fold bytes = bytes_eq (take 3 bytes) (13 ∷ 10 ∷ 32 ∷ [])

-- the bytes without each CR LF that a blank follows, and without that blank, where some bytes are skipped first
unfoldable pub unfolded_from : (skip : ℕ) → List ℕ → List ℕ
unfolded_from skip [] = []
unfolded_from zero (b ∷ bytes) =
    if begins_with_fold (b ∷ bytes) then unfolded_from 2 bytes else b ∷ unfolded_from 0 bytes
unfolded_from (suc skip) (b ∷ bytes) = unfolded_from skip bytes

abbrev pub unfolded : List ℕ → List ℕ
unfolded bytes = unfolded_from 0 bytes

-- a text without the backslashes that escape
unfoldable pub unescaped_from : (behind : Bool) → List ℕ → List ℕ
unescaped_from behind [] = []
unescaped_from behind (b ∷ text) =
    if behind then b ∷ unescaped_from false text
    else (if b == 92 then unescaped_from true text else b ∷ unescaped_from false text)

abbrev pub unescaped : List ℕ → List ℕ
unescaped text = unescaped_from false text

-- no CR is in the line
abbrev pub HasNoReturn : List ℕ → Type 0
HasNoReturn line = All (λ b. b ≢ 13) line

-- a line without CR is read back from how it is written
abbrev pub LinesAreReadBack : Type 0
LinesAreReadBack = (line : List ℕ) → HasNoReturn line → unfolded (content_line line) ≡ line ++ 13 ∷ 10 ∷ []

-- and a text from how it is escaped
abbrev pub TextsAreReadBack : Type 0
TextsAreReadBack = (text : List ℕ) → unescaped (escaped text) ≡ text

-- CR or LF
abbrev pub is_break : ℕ → Bool
is_break b = b == 13 || b == 10

-- no row is too long, where the first one has some bytes already
abbrev pub RowsFit : (count : ℕ) → List ℕ → Type 0
RowsFit count [] = count ≤ LONGEST_ROW
RowsFit count (b ∷ bytes) = (count ≤ LONGEST_ROW) × RowsFit (if is_break b then 0 else count + 1) bytes

-- each row of a line has at most 75 bytes
abbrev pub RowsAreShort : Type 0
RowsAreShort = (line : List ℕ) → RowsFit 0 (content_line line)

-- no row begins within a character: all its bytes stand side by side
abbrev pub CharactersStayWhole : Type 0
CharactersStayWhole =
    (column b : ℕ) (tail line : List ℕ) → length tail + 1 ≡ width b → All (λ c. nat_lt c 192 ≡ true) tail
    → (start : List ℕ) × (next : ℕ) × (folded_from column (b ∷ tail ++ line) ≡ start ++ b ∷ tail ++ folded_from next line)
