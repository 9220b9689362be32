-- Names as they stand in a page.
use Rattle.std.specs.Prelude.{ℕ, zero, suc, ◌+◌, ◌-◌, ◌*◌, ◌/◌, ◌%◌, List, [], ◌∷◌, ◌++◌, Bool, ◌&&◌, ◌||◌, ◌==◌, nat_lt, slice_index, if◌then◌else◌}
use Rattle.shown_names.specs.ShownNames.{character_len, hex_text, is_printable}

-- a character by its number of two digits
unfoldable pub entity_text : ℕ → List ℕ
entity_text b = 38 ∷ 35 ∷ (48 + b / 10) ∷ (48 + b % 10) ∷ 59 ∷ []

-- a byte that the markup or `\xHH` would take for its own: one of "&'<>\
abbrev pub is_special : ℕ → Bool
is_special b = (b == 34) || (b == 38) || (b == 39) || (b == 60) || (b == 62) || (b == 92)

-- a byte of a character
unfoldable pub plain_text : ℕ → List ℕ
plain_text b = if is_special b then entity_text b else b ∷ []

-- the first byte of a character that has so many bytes; `\xHH` where a reader doesn't see it, or it is in no character
unfoldable pub first_text : ℕ → ℕ → List ℕ
first_text b bytes = if nat_lt 0 bytes && is_printable b then plain_text b else hex_text b

-- the text of a name, of which the first `within` bytes are the rest of a character
abbrev pub escaped_within : ℕ → List ℕ → List ℕ
escaped_within within [] = []
escaped_within (suc k) (b ∷ bs) = plain_text b ++ escaped_within k bs
escaped_within zero (b ∷ bs) =
    first_text b (character_len (b ∷ bs)) ++ escaped_within (character_len (b ∷ bs) - 1) bs

-- the text of a name
unfoldable pub escaped : List ℕ → List ℕ
escaped name = escaped_within 0 name

-- Reading.

abbrev pub hex_value : ℕ → ℕ
hex_value digit = if nat_lt digit 58 then digit - 48 else digit - 55

-- the name that a text stands for, of whose first byte or number so many bytes are still to come
abbrev pub unescaped_past : ℕ → List ℕ → List ℕ
unescaped_past past [] = []
unescaped_past (suc k) (b ∷ bs) = unescaped_past k bs
unescaped_past zero (b ∷ bs) =
    if b == 38 then ((slice_index bs 1 - 48) * 10 + (slice_index bs 2 - 48)) ∷ unescaped_past 4 bs
    else if b == 92 then (hex_value (slice_index bs 1) * 16 + hex_value (slice_index bs 2)) ∷ unescaped_past 3 bs
    else b ∷ unescaped_past 0 bs

-- the name that a text stands for
abbrev pub unescaped : List ℕ → List ℕ
unescaped text = unescaped_past 0 text
