-- The fields of a line: words with one blank between each two. What each field holds, how it is written, and how it is
-- read.
use Rattle.std.specs.Prelude.{◌≡◌, ◌≢◌, ℕ, ◌+◌, ◌-◌, ◌*◌, ◌/◌, ◌%◌, ◌<◌, ◌≤◌, List, [], ◌∷◌, ◌++◌, length, slice_index, map, All, Option, Some, None, Bool, true, false, not, ◌&&◌, ◌||◌, ◌==◌, nat_le, if◌then◌else◌, ℤ, pos, negsuc, ◌≤ℤ◌}
use Rattle.std.specs.List.{list_all, flat_map, join_with_byte}
use Rattle.std.specs.List.Sorted.{IsStrictlyIncreasing}
use Rattle.std.specs.Option.{option_map}
use Rattle.std.specs.Str.{bytes_eq}
use Rattle.std.specs.Char.{is_ascii_digit}
use Rattle.std.specs.Fmt.{decimal, signed_decimal}
use Rattle.rwsp_text.specs.Numbers.{value_of}

abbrev pub Words : Type 0
Words = List (List ℕ)

-- words with one blank between each two, and LF at the end
abbrev pub text_of : Words → List ℕ
text_of words = join_with_byte 32 words ++ 10 ∷ []

-- a run of bytes other than blank, tab, CR and LF that isn't empty
pub record IsName (name : List ℕ) : Type 0 where
  pub some : 0 < length name
  pub visible : All (λ b. (b ≢ 32) × (b ≢ 9) × (b ≢ 13) × (b ≢ 10)) name

-- a day, a name and a value
pub record NamedWeight : Type 0 where
  pub day : ℕ
  pub name : List ℕ
  pub value : ℤ

abbrev pub weight_fields : NamedWeight → Words
weight_fields e = decimal e.day ∷ e.name ∷ signed_decimal e.value ∷ []

-- a position and a name
pub record NamedCell : Type 0 where
  pub p : ℕ
  pub name : List ℕ

-- what a line may have
pub data Field : Type 0 where
  -- this word
  Word : (word : List ℕ) → Field
  -- a number in a range
  Number : (least greatest : ℕ) → Field
  -- a name
  Name : Field
  -- the first word for true, the second for false
  Choice : (one other : List ℕ) → Field
  -- a position among the days of all weeks, from 0 on, written as its week and its day from 1 on
  Place : (weeks days : ℕ) → Field
  -- ascending numbers from 1 on
  Rules : (greatest : ℕ) → Field
  -- weights, each on a day and not 0
  Weights : (days greatest : ℕ) → Field
  -- names at ascending positions, each position written as its week and its day
  Cells : (weeks days : ℕ) → Field

-- what the fields hold, one behind the other
abbrev pub Values : List Field → Type 0
Values [] = Unit {0}
Values (Word word ∷ fields) = Values fields
Values (Number least greatest ∷ fields) = ℕ × Values fields
Values (Name ∷ fields) = List ℕ × Values fields
Values (Choice one other ∷ fields) = Bool × Values fields
Values (Place weeks days ∷ fields) = ℕ × Values fields
Values (Rules greatest ∷ fields) = List ℕ × Values fields
Values (Weights days greatest ∷ fields) = List NamedWeight × Values fields
Values (Cells weeks days ∷ fields) = List NamedCell × Values fields

-- a value of at most this size that isn't 0
abbrev pub IsValue : ℕ → ℤ → Type 0
IsValue greatest v = (negsuc (greatest - 1) ≤ℤ v) × (v ≤ℤ pos greatest) × (v ≢ pos 0)

abbrev pub IsNamedWeight : ℕ → ℕ → NamedWeight → Type 0
IsNamedWeight days greatest e = ((1 ≤ e.day) × (e.day ≤ days)) × IsName e.name × IsValue greatest e.value

-- ascending numbers from 1 to the greatest
abbrev pub Ascends : ℕ → List ℕ → Type 0
Ascends greatest R = IsStrictlyIncreasing R × All (λ k. (0 < k) × (k ≤ greatest)) R

-- ascending positions, each with a name
abbrev pub AreNamedCells : ℕ → List NamedCell → Type 0
AreNamedCells count cells = IsStrictlyIncreasing (map (λ c. c.p) cells) × All (λ c. (c.p < count) × IsName c.name) cells

-- each value is in its range
abbrev pub AreInRange : (fields : List Field) → Values fields → Type 0
AreInRange [] v = Unit {0}
AreInRange (Word word ∷ fields) v = AreInRange fields v
AreInRange (Number least greatest ∷ fields) v = ((least ≤ v.0) × (v.0 ≤ greatest)) × AreInRange fields v.1
AreInRange (Name ∷ fields) v = IsName v.0 × AreInRange fields v.1
AreInRange (Choice one other ∷ fields) v = AreInRange fields v.1
AreInRange (Place weeks days ∷ fields) v = (v.0 < weeks * days) × AreInRange fields v.1
AreInRange (Rules greatest ∷ fields) v = Ascends greatest v.0 × AreInRange fields v.1
AreInRange (Weights days greatest ∷ fields) v = All (IsNamedWeight days greatest) v.0 × AreInRange fields v.1
AreInRange (Cells weeks days ∷ fields) v = AreNamedCells (weeks * days) v.0 × AreInRange fields v.1

-- one of two words
abbrev pub either_word : List ℕ → List ℕ → Bool → List ℕ
either_word one other true = one
either_word one other false = other

-- the week and the day of a position, both from 1 on
abbrev pub week_and_day : ℕ → ℕ → Words
week_and_day days p = decimal (p / days + 1) ∷ decimal (p % days + 1) ∷ []

-- a cell's week, its day and its name
abbrev pub cell_fields : ℕ → NamedCell → Words
cell_fields days c = week_and_day days c.p ++ (c.name ∷ [])

abbrev pub numbers : List ℕ → Words
numbers R = map decimal R

-- the words that write the values
abbrev pub spell : (fields : List Field) → Values fields → Words
spell [] v = []
spell (Word word ∷ fields) v = word ∷ spell fields v
spell (Number least greatest ∷ fields) v = decimal v.0 ∷ spell fields v.1
spell (Name ∷ fields) v = v.0 ∷ spell fields v.1
spell (Choice one other ∷ fields) v = either_word one other v.0 ∷ spell fields v.1
spell (Place weeks days ∷ fields) v = week_and_day days v.0 ++ spell fields v.1
spell (Rules greatest ∷ fields) v = numbers v.0 ++ spell fields v.1
spell (Weights days greatest ∷ fields) v = flat_map weight_fields v.0 ++ spell fields v.1
spell (Cells weeks days ∷ fields) v = flat_map (cell_fields days) v.0 ++ spell fields v.1

-- Reading.

infixl 10 ◌>>=◌
abbrev pub ◌>>=◌ : {A B : Type 0} → Option A → (A → Option B) → Option B
None >>= f = None
(Some x) >>= f = f x

-- digits with no 0 in front of others
abbrev pub is_plain_number : List ℕ → Bool
is_plain_number text = nat_le (length text) 1 || not (slice_index text 0 == 48)

-- the number that up to 19 digits spell with no 0 in front of others
abbrev pub numeral : List ℕ → Option ℕ
numeral text =
    if is_plain_number text && (nat_le 1 (length text) && nat_le (length text) 19 && list_all is_ascii_digit text)
    then Some (value_of text)
    else None

abbrev pub within : ℕ → ℕ → ℕ → Option ℕ
within low high n = if nat_le low n && nat_le n high then Some n else None

-- the number that a word spells, where it is in the range
unfoldable pub number_in : ℕ → ℕ → List ℕ → Option ℕ
number_in low high text = numeral text >>= within low high

abbrev pub negated : ℕ → ℤ
negated n = negsuc (n - 1)

-- the value that a word spells
unfoldable pub value_in : ℕ → List ℕ → Option ℤ
value_in greatest [] = None
value_in greatest (c ∷ cs) =
    if c == 45 then option_map negated (number_in 1 greatest cs) else option_map pos (number_in 1 greatest (c ∷ cs))

-- any byte of a name
abbrev pub is_visible : ℕ → Bool
is_visible b = not ((b == 32) || (b == 9) || (b == 13) || (b == 10))

abbrev pub is_name : List ℕ → Bool
is_name name = not (length name == 0) && list_all is_visible name

unfoldable pub number_at : ℕ → ℕ → Words → Option (ℕ × Words)
number_at low high [] = None
number_at low high (w ∷ ws) = option_map (λ n. (n, ws)) (number_in low high w)

unfoldable pub name_at : Words → Option (List ℕ × Words)
name_at [] = None
name_at (w ∷ ws) = if is_name w then Some (w, ws) else None

unfoldable pub value_at : ℕ → Words → Option (ℤ × Words)
value_at greatest [] = None
value_at greatest (w ∷ ws) = option_map (λ v. (v, ws)) (value_in greatest w)

unfoldable pub word_at : List ℕ → Words → Option Words
word_at word [] = None
word_at word (w ∷ ws) = if bytes_eq w word then Some ws else None

unfoldable pub choice_at : List ℕ → List ℕ → Words → Option (Bool × Words)
choice_at one other [] = None
choice_at one other (w ∷ ws) =
    if bytes_eq w one then Some (true, ws) else (if bytes_eq w other then Some (false, ws) else None)

abbrev pub done_at : {X : Type 0} → X → Words → Option X
done_at x [] = Some x
done_at x (w ∷ ws) = None

unfoldable pub place_at : ℕ → ℕ → Words → Option (ℕ × Words)
place_at weeks days ws =
    number_at 1 weeks ws >>= (λ week.
    number_at 1 days week.1 >>= (λ day.
    Some ((week.0 - 1) * days + (day.0 - 1), day.1)))

-- the ascending numbers in front
abbrev pub front_onto : Option ℕ → (ℕ → List ℕ × Words) → Words → List ℕ × Words
front_onto None rest ws = ([], ws)
front_onto (Some n) rest ws = (n ∷ (rest n).0, (rest n).1)

abbrev pub rules_front : ℕ → ℕ → Words → List ℕ × Words
rules_front high last [] = ([], [])
rules_front high last (w ∷ ws) = front_onto (number_in (last + 1) high w) (λ n. rules_front high n ws) (w ∷ ws)

unfoldable pub rules_at : ℕ → Words → List ℕ × Words
rules_at high ws = rules_front high 0 ws

-- a weight from its three words
abbrev pub weight_from : Option ℕ → List ℕ → Bool → Option ℤ → Option NamedWeight
weight_from None name ok value = None
weight_from (Some day) name false value = None
weight_from (Some day) name true None = None
weight_from (Some day) name true (Some value) = Some (record { day = day; name = name; value = value })

abbrev pub weight_of_words : ℕ → ℕ → List ℕ → List ℕ → List ℕ → Option NamedWeight
weight_of_words days greatest day name value =
    weight_from (number_in 1 days day) name (is_name name) (value_in greatest value)

unfoldable pub weight_in : ℕ → ℕ → Words → Option (NamedWeight × Words)
weight_in days greatest ws =
    number_at 1 days ws >>= (λ day.
    name_at day.1 >>= (λ name.
    value_at greatest name.1 >>= (λ value.
    Some (record { day = day.0; name = name.0; value = value.0 }, value.1))))

-- all words as weights
abbrev pub weights_at : ℕ → ℕ → Words → Option (List NamedWeight)
weights_at days greatest [] = Some []
weights_at days greatest (d ∷ []) = None
weights_at days greatest (d ∷ n ∷ []) = None
weights_at days greatest (d ∷ n ∷ v ∷ ws) =
    weight_of_words days greatest d n v >>= (λ e. weights_at days greatest ws >>= (λ y. Some (e ∷ y)))

-- the position of a week and a day, from this one on
abbrev pub position_in : ℕ → ℕ → ℕ → List ℕ → List ℕ → Option ℕ
position_in weeks days least week day =
    number_in 1 weeks week >>= (λ i.
    number_in 1 days day >>= (λ j.
    within least (weeks * days) ((i - 1) * days + (j - 1))))

-- all words as cells, from a position on
abbrev pub cells_from : ℕ → ℕ → ℕ → Words → Option (List NamedCell)
cells_from weeks days least [] = Some []
cells_from weeks days least (week ∷ []) = None
cells_from weeks days least (week ∷ day ∷ []) = None
cells_from weeks days least (week ∷ day ∷ name ∷ ws) =
    position_in weeks days least week day >>= (λ p.
    (if is_name name then cells_from weeks days (p + 1) ws else None) >>= (λ later.
    Some (record { p = p; name = name } ∷ later)))

unfoldable pub cells_at : ℕ → ℕ → Words → Option (List NamedCell)
cells_at weeks days ws = cells_from weeks days 0 ws

-- what is made of the values of the fields, where the words are these fields
abbrev pub read : {X : Type 0} → (fields : List Field) → (Values fields → X) → Words → Option X
read [] make ws = done_at (make tt) ws
read (Word word ∷ fields) make ws = word_at word ws >>= (λ rest. read fields make rest)
read (Number least greatest ∷ fields) make ws =
    number_at least greatest ws >>= (λ n. read fields (λ v. make (n.0, v)) n.1)
read (Name ∷ fields) make ws = name_at ws >>= (λ name. read fields (λ v. make (name.0, v)) name.1)
read (Choice one other ∷ fields) make ws = choice_at one other ws >>= (λ c. read fields (λ v. make (c.0, v)) c.1)
read (Place weeks days ∷ fields) make ws = place_at weeks days ws >>= (λ p. read fields (λ v. make (p.0, v)) p.1)
read (Rules greatest ∷ fields) make ws = read fields (λ v. make ((rules_at greatest ws).0, v)) (rules_at greatest ws).1
read (Weights days greatest ∷ fields) make ws = weights_at days greatest ws >>= (λ y. read fields (λ v. make (y, v)) [])
read (Cells weeks days ∷ fields) make ws = cells_at weeks days ws >>= (λ c. read fields (λ v. make (c, v)) [])

-- the words write values in their ranges, and this is made of them
pub record Says {X : Type 0} (fields : List Field) (make : Values fields → X) (ws : Words) (x : X) : Type 0 where
  pub values : Values fields
  pub keeps : AreInRange fields values
  pub spelled : ws ≡ spell fields values
  pub made : make values ≡ x
