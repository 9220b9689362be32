-- A name as people read it: text as it is, and any other byte as `\xHH`.
use Rattle.std.specs.Prelude.{ℕ, zero, suc, ◌+◌, ◌-◌, ◌/◌, ◌%◌, ◌==◌, List, [], ◌∷◌, ◌++◌, length, take, Bool, ◌&&◌, not, nat_lt, nat_le, if◌then◌else◌}
use Rattle.std.specs.Str.{is_utf8}

-- the first n bytes are there, and are text in UTF-8
abbrev pub begins_with_text : List ℕ → ℕ → Bool
begins_with_text bytes n = nat_le n (length bytes) && is_utf8 (take n bytes)

-- how many bytes the character has that begins the bytes; 0 where none does
unfoldable pub character_len : List ℕ → ℕ
character_len bytes =
    if begins_with_text bytes 1 then 1
    else (if begins_with_text bytes 2 then 2
    else (if begins_with_text bytes 3 then 3
    else (if begins_with_text bytes 4 then 4 else 0)))

-- a hexadecimal digit
abbrev pub hex_digit : ℕ → ℕ
hex_digit d = if nat_lt d 10 then 48 + d else 55 + d

-- `\xHH`
abbrev pub hex_text : ℕ → List ℕ
hex_text b = 92 ∷ 120 ∷ hex_digit (b / 16) ∷ hex_digit (b % 16) ∷ []

-- no control byte of ASCII
abbrev pub is_printable : ℕ → Bool
is_printable b = nat_le 32 b && not (b == 127)

-- the byte that begins a character of this length, or begins none
abbrev pub first_shown : (b len : ℕ) → List ℕ
first_shown b len = if nat_lt 0 len && is_printable b then b ∷ [] else hex_text b

-- the bytes as they are shown, where the first ones, as many as `more`, go on with a character
unfoldable pub shown_from : (more : ℕ) → List ℕ → List ℕ
shown_from more [] = []
shown_from zero (b ∷ bytes) =
    first_shown b (character_len (b ∷ bytes)) ++ shown_from (character_len (b ∷ bytes) - 1) bytes
shown_from (suc more) (b ∷ bytes) = b ∷ shown_from more bytes

-- the name as it is shown
abbrev pub shown : List ℕ → List ℕ
shown name = shown_from 0 name
