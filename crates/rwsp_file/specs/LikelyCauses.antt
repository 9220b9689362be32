-- What is likely the cause of a refusal, by small tests of the word, of its place and of the lines before it.
use Rattle.std.specs.Prelude.{ℕ, ◌+◌, ◌-◌, ◌*◌, ◌==◌, ◌&&◌, ◌||◌, List, [], ◌∷◌, length, map, take, position, count_by, slice_index, Bool, true, false, not, Option, Some, None, Result, Ok, Err, nat_le, nat_lt, if◌then◌else◌}
use Rattle.std.specs.Option.{option_map}
use Rattle.std.specs.List.{list_any, list_all, before_first, after_first}
use Rattle.std.specs.Char.{is_ascii_digit}
use Rattle.std.specs.Str.{bytes_eq}
use Rattle.rwsp_text.specs.Lexemes.{Lexeme}
use Rattle.rwsp_text.specs.Numbers.{number_of}
use Rattle.rwsp_file.specs.declared.fields.Size.{Size}
use Rattle.rwsp_file.specs.declared.misfit.Kind.TheVariants.{Pair, Triple}
use Rattle.rwsp_file.specs.declared.misfit.Place.{Place}
use Rattle.rwsp_file.specs.declared.misfit.Place.TheVariants.{Days, Weeks, Shifts, Demand, ShiftLine, Start, LeastOff, GreatestOff, LeastWork, GreatestWork, Sequences, InSequence}
use Rattle.rwsp_file.specs.declared.misfit.Fault.{Fault}
use Rattle.rwsp_file.specs.declared.misfit.Fault.TheVariants.{NoNumber, WordCount, NoSymbol, NotEnd}
use Rattle.rwsp_file.specs.declared.misfit.Misfit.{Misfit}
use Rattle.rwsp_file.specs.declared.misfit.Misfit.TheVariants.{TextEnds, BadWord}
use Rattle.rwsp_file.specs.declared.likely.Counts.{Counts}
use Rattle.rwsp_file.specs.declared.likely.Cause.{Cause}
use Rattle.rwsp_file.specs.declared.likely.Cause.TheVariants.{ByteOrderMark, Utf16, NoPlainText, NoBreakSpace, Commas, Clock, Colon, RangeForm, DecimalPoint, OtherLength, MissingRow, NoComment, SizesFirst, TwoWordName, FrameNumbers, Announced, NoWords}
use Rattle.rwsp_file.specs.Reading.{Unread, ◌>>=◌, is_dot, sequence_limit, limited, next_at, count_at, bounds_at, size_at, demand_rows_at, shift_rows_at}

-- the first of two causes that is there
abbrev pub or_cause : Option Cause → Option Cause → Option Cause
or_cause None other = other
or_cause (Some cause) other = Some cause

abbrev pub cause_if : Bool → Cause → Option Cause
cause_if is cause = if is then Some cause else None

-- tests of the bytes of a word

abbrev pub has_byte : ℕ → List ℕ → Bool
has_byte byte word = list_any (λ b. b == byte) word

abbrev pub has_digit : List ℕ → Bool
has_digit word = list_any is_ascii_digit word

abbrev pub begins_with : (start word : List ℕ) → Bool
begins_with start word = nat_le (length start) (length word) && bytes_eq (take (length start) word) start

-- a control byte of ASCII
abbrev pub has_control : List ℕ → Bool
has_control word = list_any (λ b. nat_lt b 32) word

abbrev pub dots : List ℕ → ℕ
dots word = count_by is_dot word

abbrev pub is_colon : ℕ → Bool
is_colon b = b == 58

abbrev pub minutes_from : (hours minutes : Option ℕ) → Option ℕ
minutes_from None minutes = None
minutes_from (Some h) None = None
minutes_from (Some h) (Some m) = if nat_lt h 24 && nat_lt m 60 then Some (h * 60 + m) else None

-- the minutes from midnight of a time HH:MM
abbrev pub minutes_of : List ℕ → Option ℕ
minutes_of word = minutes_from (number_of (before_first is_colon word)) (number_of (after_first is_colon word))

abbrev pub clock_or_colon : Option ℕ → Cause
clock_or_colon None = Colon
clock_or_colon (Some minutes) = Clock minutes

-- what the bytes of a word show that should be a number, wherever it is: a text in UTF-8 may begin with EF BB BF, one in
-- UTF-16 begins with FF FE or FE FF, and C2 A0 is the no-break space
abbrev pub word_cause : List ℕ → Option Cause
word_cause word =
    or_cause (cause_if (begins_with (239 ∷ 187 ∷ 191 ∷ []) word) ByteOrderMark)
    (or_cause (cause_if (begins_with (255 ∷ 254 ∷ []) word || begins_with (254 ∷ 255 ∷ []) word) Utf16)
    (or_cause (cause_if (has_control word) NoPlainText)
    (or_cause (cause_if (has_byte 194 word && has_byte 160 word) NoBreakSpace)
    (or_cause (cause_if (has_byte 44 word) Commas)
    (cause_if (has_byte 58 word) (clock_or_colon (minutes_of word)))))))

-- a digit, `-` or a dot
abbrev pub is_range_byte : ℕ → Bool
is_range_byte b = is_ascii_digit b || b == 45 || is_dot b

abbrev pub is_range_like : List ℕ → Bool
is_range_like word = list_all is_range_byte word

abbrev pub is_demand : Place → Bool
is_demand (Demand shift day) = true
is_demand awaited = false

-- `-`, or two dots, where a demand isn't of the form LO..HI
abbrev pub is_bad_range : List ℕ → Bool
is_bad_range word = is_range_like word && (has_byte 45 word || nat_le 2 (dots word))

abbrev pub has_point : List ℕ → Bool
has_point word = is_range_like word && dots word == 1

-- the lines of words

abbrev pub lines_of_words : List Lexeme → List ℕ
lines_of_words ws = map (λ w. w.line) ws

-- how many of the words are on the line
abbrev pub words_on : (lines : List ℕ) → ℕ → ℕ
words_on lines line = count_by (λ l. l == line) lines

-- a line, up to the last one, which has not so many words
abbrev pub is_other_line : (lines : List ℕ) → (words last : ℕ) → ℕ → Bool
is_other_line lines words last line = nat_le line last && not (words_on lines line == words)

-- the first of them
abbrev pub other_line : (lines : List ℕ) → (words last : ℕ) → Option ℕ
other_line lines words last = option_map (slice_index lines) (position (is_other_line lines words last) lines)

abbrev pub other_length : (lines : List ℕ) → (days : ℕ) → Option ℕ → Option Cause
other_length lines days None = None
other_length lines days (Some line) = Some (OtherLength line (words_on lines line) days)

-- a line of demands, up to the last one, with another number of words than there are days
abbrev pub length_cause : (lines : List ℕ) → (days last : ℕ) → Option Cause
length_cause lines days last = other_length lines days (other_line lines days last)

-- a word without digits where the demands of a shift are awaited: those of the first shift, or of a later one
abbrev pub row_cause : (shifts shift day : ℕ) → List ℕ → Option Cause
row_cause shifts shift day word =
    cause_if (day == 1 && not (has_digit word)) (if shift == 1 then NoComment else MissingRow (shift - 1) shifts)

abbrev pub rows_cause_in : Result (Size × Unread) Misfit → (shift day : ℕ) → Lexeme → Option Cause
rows_cause_in (Err misfit) shift day w = None
rows_cause_in (Ok x) shift day w =
    or_cause (length_cause (lines_of_words x.1.lexemes) x.0.days (w.line - 1)) (row_cause x.0.shifts shift day w.text)

-- what the lines before a word show that should be a demand
abbrev pub rows_cause : Unread → (shift day : ℕ) → Lexeme → Option Cause
rows_cause u shift day w = rows_cause_in (size_at u) shift day w

abbrev pub lines_cause_in : Result (Size × Unread) Misfit → Lexeme → Option Cause
lines_cause_in (Err misfit) w = None
lines_cause_in (Ok x) w = length_cause (lines_of_words x.1.lexemes) x.0.days w.line

-- what the lines of demands up to a word show
abbrev pub lines_cause : Unread → Lexeme → Option Cause
lines_cause u w = lines_cause_in (size_at u) w

-- the same where the line of the first shift has not five or six words, and begins with a word that has a digit
abbrev pub row_length_cause : Unread → Place → Lexeme → Option Cause
row_length_cause u (ShiftLine shift) w = if shift == 1 && has_digit w.text then lines_cause u w else None
row_length_cause u awaited w = None

-- past the demands and the shifts
abbrev pub shifts_skipped : Unread → Result (Unit {0} × Unread) Misfit
shifts_skipped u = do
  size ← size_at u
  demand ← demand_rows_at size.0 size.1
  shifts ← shift_rows_at size.0.shifts demand.1
  Ok (tt, shifts.1)

-- how many pairs and triples a text announces, and on which line
unfoldable pub counts_at : Unread → Result Counts Misfit
counts_at u = do
  shifts ← shifts_skipped u
  off ← bounds_at LeastOff GreatestOff shifts.1
  work ← bounds_at LeastWork GreatestWork off.1
  w ← next_at (Sequences Pair) work.1
  pairs ← limited (Sequences Pair) (sequence_limit Pair) w.0
  triples ← count_at Triple w.1
  Ok (record { line = w.0.line; pairs = pairs; triples = triples.0 })

abbrev pub announced : Result Counts Misfit → Option Cause
announced (Ok counts) = Some (Announced counts)
announced (Err misfit) = None

-- what stands in front of a text's demands: numbers, with no word that explains them
abbrev pub size_cause : List ℕ → Option Cause
size_cause word = Some (if has_digit word then SizesFirst else NoComment)

-- what is usual at a place where a word should be a number, or what the lines before a word show that should be a demand
abbrev pub own_cause : Unread → Place → Lexeme → Option Cause
own_cause u (Demand shift day) w = rows_cause u shift day w
own_cause u Days w = size_cause w.text
own_cause u Weeks w = size_cause w.text
own_cause u Shifts w = size_cause w.text
own_cause u (Start shift) w = cause_if (not (has_digit w.text)) TwoWordName
own_cause u LeastOff w = Some FrameNumbers
own_cause u GreatestOff w = Some FrameNumbers
own_cause u LeastWork w = Some FrameNumbers
own_cause u GreatestWork w = Some FrameNumbers
own_cause u (Sequences kind) w = Some FrameNumbers
own_cause u awaited w = None

-- what a word shows that should be a number, by its place
abbrev pub place_cause : Unread → Place → Lexeme → Option Cause
place_cause u awaited w =
    or_cause (cause_if (is_demand awaited && is_bad_range w.text) RangeForm)
    (or_cause (cause_if (has_point w.text) DecimalPoint) (own_cause u awaited w))

-- what is likely where the text ends too early
abbrev pub end_cause : Unread → Place → Option Cause
end_cause u Days = Some NoWords
end_cause u (InSequence kind number symbol) = announced (counts_at u)
end_cause u awaited = None

-- what is likely where a word is refused
abbrev pub bad_word_cause : Unread → Place → Lexeme → Fault → Option Cause
bad_word_cause u awaited w NoNumber = or_cause (word_cause w.text) (place_cause u awaited w)
bad_word_cause u awaited w (WordCount words) = row_length_cause u awaited w
bad_word_cause u awaited w NoSymbol = cause_if (has_byte 44 w.text) Commas
bad_word_cause u awaited w NotEnd = announced (counts_at u)
bad_word_cause u awaited w fault = None

-- what is likely the cause of the first failure in a text of which all is to be read
abbrev pub likely : Unread → Misfit → Option Cause
likely u (TextEnds awaited line) = end_cause u awaited
likely u (BadWord awaited w fault) = bad_word_cause u awaited w fault
