-- Forms of command lines: a word and the fields behind it. A table lists the forms of a program.
use Rattle.std.specs.Prelude.{ℕ, ◌+◌, ◌-◌, ◌==◌, min, List, [], ◌∷◌, ◌++◌, map, codes, Option, Some, None, Bool, true, false, not, cond, if◌then◌else◌}
use Rattle.std.specs.List.{join_with_byte}
use Rattle.std.specs.Option.{option_map}
use Rattle.std.specs.Str.{bytes_eq}
use Rattle.rwsp_text.specs.Numbers.{number_of}
use Rattle.rwsp_text.specs.Fields.{Words, ◌>>=◌, within, done_at}
use Rattle.crew_calendar.specs.Calendar.{Date}
use Rattle.crew_calendar.proofs.DateWords.{date_in}

-- an option: its word, the name of its number in the line of usage, the range of that, and what it usually is
pub record Setting : Type 0 where
  pub word : List ℕ
  pub label : List ℕ
  pub least : ℕ
  pub usual : ℕ
  pub greatest : ℕ

-- what a form may have behind its word, with its name in the line of usage
pub data Field : Type 0 where
  -- a file
  File : (label : List ℕ) → Field
  -- a number of 1 to 9 digits in a range
  Number : (label : List ℕ) (least greatest : ℕ) → Field
  -- a date as YYYY-MM-DD
  Day : (label : List ℕ) → Field
  -- the first and the last of at most `most` numbers in a row, from 1 to the greatest
  Range : (first last : List ℕ) (greatest most : ℕ) → Field
  -- an option: a word, and behind it a number in a range; without them it has the usual number. It tells too whether it
  -- was left out
  Optional : Setting → Field
  -- two options, in either order
  Options : (first second : Setting) → Field
  -- a field, or a word, or the end of the words
  Perhaps : Field → (word : List ℕ) → Field

-- what an option holds
abbrev pub Given : Type 0
Given = ℕ × Bool

-- what a field holds. Where a field may be left out, that is nothing, or the word that stands in its place, or what the
-- field holds
abbrev pub Value : Field → Type 0
Value (File label) = List ℕ
Value (Number label least greatest) = ℕ
Value (Day label) = Date
Value (Range first last greatest most) = ℕ × ℕ
Value (Optional setting) = Given
Value (Options first second) = Given × Given
Value (Perhaps field word) = Option (Option (Value field))

-- what fields hold, one behind the other
abbrev pub Values : List Field → Type 0
Values [] = Unit {0}
Values (field ∷ fields) = Value field × Values fields

-- a form: its word, the fields behind it, and what they say
pub record Form (X : Type 0) : Type 0 where
  pub word : List ℕ
  pub fields : List Field
  pub make : Values fields → X

-- Reading: what the words in front say, and the words behind them.

-- a word that names a file isn't empty and doesn't begin with `-`
abbrev pub is_file_word : List ℕ → Bool
is_file_word [] = false
is_file_word (b ∷ bs) = not (b == 45)

unfoldable pub file_at : Words → Option (List ℕ × Words)
file_at [] = None
file_at (w ∷ ws) = if is_file_word w then Some (w, ws) else None

unfoldable pub digits_at : ℕ → ℕ → Words → Option (ℕ × Words)
digits_at least greatest [] = None
digits_at least greatest (w ∷ ws) = option_map (λ n. (n, ws)) (number_of w >>= within least greatest)

unfoldable pub date_at : Words → Option (Date × Words)
date_at [] = None
date_at (w ∷ ws) = option_map (λ d. (d, ws)) (date_in w)

unfoldable pub range_at : ℕ → ℕ → Words → Option ((ℕ × ℕ) × Words)
range_at greatest most ws =
    digits_at 1 greatest ws >>= (λ low.
    digits_at low.0 (min greatest (low.0 + most - 1)) low.1 >>= (λ high.
    Some ((low.0, high.0), high.1)))

unfoldable pub setting_at : List ℕ → ℕ → ℕ → ℕ → Words → Option (Given × Words)
setting_at word least usual greatest [] = Some ((usual, true), [])
setting_at word least usual greatest (w ∷ ws) =
    if bytes_eq w word then option_map (λ n. ((n.0, false), n.1)) (digits_at least greatest ws)
    else Some ((usual, true), w ∷ ws)

abbrev pub given_at : Setting → Words → Option (Given × Words)
given_at it ws = setting_at it.word it.least it.usual it.greatest ws

-- an option that is there, or behind the other one
abbrev pub or_later : Setting → Given → Words → Option (Given × Words)
or_later it early ws = if early.1 then given_at it ws else Some (early, ws)

-- the first option may be on either side of the second
abbrev pub options_at : (first second : Setting) → Words → Option ((Given × Given) × Words)
options_at first second ws =
    given_at first ws >>= (λ a.
    given_at second a.1 >>= (λ b.
    or_later first a.0 b.1 >>= (λ c.
    Some ((c.0, b.0), c.1))))

-- whether the word is the next one, and the words without it
abbrev pub skipped : List ℕ → Words → Bool × Words
skipped word [] = (false, [])
skipped word (w ∷ ws) = if bytes_eq w word then (true, ws) else (false, w ∷ ws)

abbrev pub field_at : (field : Field) → Words → Option (Value field × Words)
field_at (File label) ws = file_at ws
field_at (Number label least greatest) ws = digits_at least greatest ws
field_at (Day label) ws = date_at ws
field_at (Range first last greatest most) ws = range_at greatest most ws
field_at (Optional setting) ws = given_at setting ws
field_at (Options first second) ws = options_at first second ws
field_at (Perhaps field word) [] = Some (None, [])
field_at (Perhaps field word) (w ∷ ws) =
    if bytes_eq w word then Some (Some None, ws)
    else option_map (λ v. (Some (Some v.0), v.1)) (field_at field (w ∷ ws))

abbrev pub fields_at : {X : Type 0} → (fields : List Field) → (Values fields → X) → Words → Option (X × Words)
fields_at [] make ws = Some (make tt, ws)
fields_at (field ∷ fields) make ws = field_at field ws >>= (λ v. fields_at fields (λ u. make (v.0, u)) v.1)

-- what is behind the word of a form
abbrev pub form_at : {X : Type 0} → Form X → Words → Option (X × Words)
form_at form ws = fields_at form.fields form.make ws

-- the form is the one that the first word names
abbrev pub named_at : {X : Type 0} → List (Form X) → List ℕ → Words → Option (X × Words)
named_at [] w ws = None
named_at (form ∷ forms) w ws = cond (bytes_eq w form.word) (form_at form ws) (named_at forms w ws)

-- what the words say that are a form of the table, to their end
unfoldable pub said_by : {X : Type 0} → List (Form X) → Words → Option X
said_by forms [] = None
said_by forms (w ∷ ws) = named_at forms w ws >>= (λ x. done_at x.0 x.1)

-- The line of usage.

abbrev pub setting_text : Setting → List ℕ
setting_text it = codes "[" ++ join_with_byte 32 (it.word ∷ it.label ∷ []) ++ codes "]"

abbrev pub field_text : Field → List ℕ
field_text (File label) = label
field_text (Number label least greatest) = label
field_text (Day label) = label
field_text (Range first last greatest most) = join_with_byte 32 (first ∷ last ∷ [])
field_text (Optional setting) = setting_text setting
field_text (Options first second) = join_with_byte 32 (setting_text first ∷ setting_text second ∷ [])
field_text (Perhaps field word) = codes "[" ++ field_text field ++ codes " | " ++ word ++ codes "]"

abbrev pub form_text : {X : Type 0} → Form X → List ℕ
form_text form = join_with_byte 32 (form.word ∷ map field_text form.fields)

-- the forms of the table, with a bar between each two
abbrev pub forms_text : {X : Type 0} → List (Form X) → List ℕ
forms_text [] = []
forms_text (form ∷ []) = form_text form
forms_text (form ∷ other ∷ forms) = form_text form ++ codes " | " ++ forms_text (other ∷ forms)
