-- Words that sentences have in common.
use Rattle.std.specs.Prelude.{ℕ, List, ◌++◌, Bool, ◌&&◌, ◌||◌, ◌==◌, nat_le, codes, if◌then◌else◌}
use Rattle.std.specs.Fmt.{decimal}
use Rattle.std.specs.List.{list_all}
use Rattle.std.specs.Str.{bytes_eq}
use Rattle.rwsp_terms.specs.declared.data.Bounds.{Bounds}
use Rattle.rwsp_terms.specs.declared.data.Symbol.{Symbol}
use Rattle.rwsp_terms.specs.Instance.{Instance, name_numbered}
use Rattle.shown_names.specs.ShownNames.{shown}
use Rattle.plain_words.specs.Fixed.{fixed}
use Rattle.plain_words.specs.declared.pieces.TheConstants.{DAY, DAYS, QUOTE, TO, WEEK, WEEKS}

-- a number of things, by the words for one and for any other number
unfoldable pub count_words : (n : ℕ) → (one many : List ℕ) → List ℕ
count_words n one many = decimal n ++ (if n == 1 then fixed one else fixed many)

unfoldable pub days_words : ℕ → List ℕ
days_words n = count_words n DAY.now DAYS.now

unfoldable pub weeks_words : ℕ → List ℕ
weeks_words n = count_words n WEEK.now WEEKS.now

-- from a least number to a greatest
unfoldable pub range_words : Bounds → List ℕ
range_words b =
    if b.least == b.greatest then decimal b.least else decimal b.least ++ fixed TO.now ++ decimal b.greatest

-- a digit or a dot
abbrev pub is_of_number : ℕ → Bool
is_of_number b = (nat_le 48 b && nat_le b 57) || (b == 46)

-- a name that could be taken for a word or a number of the sentence
abbrev pub is_like_words : List ℕ → Bool
is_like_words name = bytes_eq name (codes "off") || bytes_eq name (codes "work") || list_all is_of_number name

-- a name in a sentence
unfoldable pub name_words : List ℕ → List ℕ
name_words name = if is_like_words name then fixed QUOTE.now ++ shown name ++ fixed QUOTE.now else shown name

-- the name of a shift by its number
unfoldable pub shift_words : Instance → ℕ → List ℕ
shift_words P x = name_words (name_numbered P x)

-- a shift in a sentence, or these words for the day off
abbrev pub symbol_words : Instance → Symbol → (off : List ℕ) → List ℕ
symbol_words P x off = if x.number == 0 then fixed off else shift_words P x.number
