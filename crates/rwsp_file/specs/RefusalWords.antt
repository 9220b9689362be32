-- The words in which a refusal is explained.
use Rattle.std.specs.Prelude.{ℕ, ◌/◌, ◌%◌, ◌+◌, ◌==◌, ◌&&◌, List, [], ◌∷◌, ◌++◌, Bool, Option, Some, None, nat_le, nat_lt, if◌then◌else◌, codes}
use Rattle.std.specs.List.{flat_map}
use Rattle.std.specs.Option.{option_map}
use Rattle.std.specs.Fmt.{decimal}
use Rattle.rwsp_terms.specs.declared.limits.TheConstants.{MOST_CELLS, LONGEST_NAME}
use Rattle.rwsp_file.specs.declared.limits.Limit.{Limit}
use Rattle.rwsp_file.specs.declared.misfit.Kind.{Kind}
use Rattle.rwsp_file.specs.declared.misfit.Kind.TheVariants.{Pair, Triple}
use Rattle.rwsp_file.specs.declared.misfit.Place.{Place}
use Rattle.rwsp_file.specs.declared.misfit.Place.TheVariants.{Days, Weeks, Shifts, Demand, ShiftLine, ShiftName, Start, Minutes, LeastBlock, GreatestBlock, LeastOff, GreatestOff, LeastWork, GreatestWork, Sequences, InSequence, TextEnd}
use Rattle.rwsp_file.specs.declared.misfit.Fault.{Fault}
use Rattle.rwsp_file.specs.declared.misfit.Fault.TheVariants.{Beyond, TooManyDays, WordCount, LongName, OffName, TakenName, NoSymbol}
use Rattle.rwsp_file.specs.declared.misfit.Misfit.{Misfit}
use Rattle.rwsp_file.specs.declared.misfit.Misfit.TheVariants.{TextEnds, BadWord}
use Rattle.rwsp_file.specs.declared.likely.Cause.{Cause}
use Rattle.rwsp_file.specs.declared.likely.Cause.TheVariants.{ByteOrderMark, Utf16, NoPlainText, NoBreakSpace, Commas, Clock, Colon, RangeForm, DecimalPoint, OtherLength, MissingRow, NoComment, SizesFirst, TwoWordName, FrameNumbers, Announced, NoWords}
use Rattle.rwsp_file.specs.LikelyCauses.{likely}
use Rattle.rwsp_file.specs.Reading.{Unread, unread_of, first_misfit}

-- a visible byte of ASCII, or a blank
abbrev pub is_visible_byte : ℕ → Bool
is_visible_byte b = nat_le 32 b && nat_le b 126

-- a hexadecimal digit
abbrev pub hex_digit : ℕ → ℕ
hex_digit d = if nat_lt d 10 then 48 + d else 55 + d

-- a visible byte as it is, and any other as `\xHH`
abbrev pub byte_text : ℕ → List ℕ
byte_text b =
    if is_visible_byte b then b ∷ [] else 92 ∷ 120 ∷ hex_digit (b / 16) ∷ hex_digit (b % 16) ∷ []

-- the bytes of a word, each as it is shown
abbrev pub shown_word : List ℕ → List ℕ
shown_word word = flat_map byte_text word

abbrev pub kind_text : Kind → List ℕ
kind_text Pair = codes "pair"
kind_text Triple = codes "triple"

-- what a place of a problem's text is for
abbrev pub place_text : Place → List ℕ
place_text Days = codes "the number of days"
place_text Weeks = codes "the number of weeks"
place_text Shifts = codes "the number of shifts"
place_text (Demand shift day) = codes "the demand of shift " ++ decimal shift ++ codes " on day " ++ decimal day
place_text (ShiftLine shift) = codes "the line of shift " ++ decimal shift
place_text (ShiftName shift) = codes "the name of shift " ++ decimal shift
place_text (Start shift) = codes "the start of shift " ++ decimal shift
place_text (Minutes shift) = codes "the length of shift " ++ decimal shift
place_text (LeastBlock shift) = codes "the least block of shift " ++ decimal shift
place_text (GreatestBlock shift) = codes "the greatest block of shift " ++ decimal shift
place_text LeastOff = codes "the least block of days off"
place_text GreatestOff = codes "the greatest block of days off"
place_text LeastWork = codes "the least block of work"
place_text GreatestWork = codes "the greatest block of work"
place_text (Sequences kind) = codes "the number of forbidden " ++ kind_text kind ++ codes "s"
place_text (InSequence kind number symbol) =
    codes "symbol " ++ decimal symbol ++ codes " of forbidden " ++ kind_text kind ++ codes " " ++ decimal number
place_text TextEnd = codes "the end of the text"

-- from which number to which a place may have them
abbrev pub limit_text : Limit → List ℕ
limit_text limit =
    if limit.least == 0
    then codes " is at most " ++ decimal limit.greatest
    else codes " is " ++ decimal limit.least ++ codes " to " ++ decimal limit.greatest

-- what is wrong with a word, where the place has no limit
abbrev pub reason_text : Fault → List ℕ
reason_text LongName = codes ", and this is longer than " ++ decimal LONGEST_NAME ++ codes " bytes"
reason_text OffName = codes ", and - is the day off"
reason_text (TakenName shift) = codes ", and this is the name of shift " ++ decimal shift ++ codes " already"
reason_text NoSymbol = codes ", and this is no shift's name"
reason_text fault = []

-- what was awaited, and what is wrong with the word that is there
abbrev pub fault_text : Place → Fault → List ℕ
fault_text awaited (Beyond limit) = place_text awaited ++ limit_text limit
fault_text awaited (TooManyDays weeks days) =
    decimal weeks ++ codes " weeks of " ++ decimal days ++ codes " days have more than " ++ decimal MOST_CELLS
    ++ codes " days"
fault_text awaited (WordCount words) = place_text awaited ++ codes " has five or six words, not " ++ decimal words
fault_text awaited fault = place_text awaited ++ codes " was awaited" ++ reason_text fault

-- the line, the word, and what was awaited
abbrev pub misfit_text : Misfit → List ℕ
misfit_text (TextEnds awaited line) =
    codes "line " ++ decimal line ++ codes ": the text ends, but " ++ place_text awaited ++ codes " was awaited"
misfit_text (BadWord awaited word fault) =
    codes "line " ++ decimal word.line ++ codes ": " ++ shown_word word.text ++ codes ", but "
    ++ fault_text awaited fault

-- what is likely the cause, with the word that was found
abbrev pub cause_text : List ℕ → Cause → List ℕ
cause_text word ByteOrderMark = codes "the text begins with a byte order mark: save it as UTF-8 without one"
cause_text word Utf16 = codes "the text is in UTF-16: save it as UTF-8"
cause_text word NoPlainText = codes "this is no plain text: save it as text, in UTF-8"
cause_text word NoBreakSpace = codes "a no-break space is no blank"
cause_text word Commas = codes "words stand apart by blanks, not by commas"
cause_text word (Clock minutes) =
    codes "times are minutes from midnight: " ++ shown_word word ++ codes " is " ++ decimal minutes
cause_text word Colon = codes "times are minutes from midnight: 06:00 is 360"
cause_text word RangeForm = codes "a range is written 4..5, with two dots and no blanks"
cause_text word DecimalPoint = codes "numbers are whole, with no decimal point"
cause_text word (OtherLength line words days) =
    codes "line " ++ decimal line ++ codes " has " ++ decimal words ++ codes " words, and there are " ++ decimal days
    ++ codes " days"
cause_text word (MissingRow rows shifts) =
    codes "demands are there for " ++ decimal rows ++ codes " of " ++ decimal shifts ++ codes " shifts"
cause_text word NoComment = codes "words that explain a number stand behind a #"
cause_text word SizesFirst = codes "the text begins with the numbers of days, weeks and shifts"
cause_text word TwoWordName = codes "a shift's name is one word; a long name may stand behind the length"
cause_text word FrameNumbers =
    codes "six numbers stand behind the shifts: 2 for days off, 2 for work, and how many pairs and triples"
cause_text word (Announced counts) =
    codes "line " ++ decimal counts.line ++ codes " announces " ++ decimal counts.pairs
    ++ codes " forbidden pairs and " ++ decimal counts.triples ++ codes " forbidden triples"
cause_text word NoWords = codes "the text has no words"

-- the line that says what is likely the cause, where that is plain
abbrev pub cause_line : List ℕ → Option Cause → List ℕ
cause_line word None = []
cause_line word (Some cause) = cause_text word cause ++ 10 ∷ []

-- the word that was found
abbrev pub word_found : Misfit → List ℕ
word_found (TextEnds awaited line) = []
word_found (BadWord awaited word fault) = word.text

-- a refusal in words: a line on what was found and awaited, and maybe one on the cause
abbrev pub misfit_words : Unread → Misfit → List ℕ
misfit_words u misfit = misfit_text misfit ++ 10 ∷ cause_line (word_found misfit) (likely u misfit)

-- why a text is no problem's, in words, where it is none
abbrev pub refusal_words : List ℕ → Option (List ℕ)
refusal_words bytes = option_map (misfit_words (unread_of bytes)) (first_misfit bytes)
