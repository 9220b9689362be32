-- That the word at which a text is refused is the first that fails.
use Rattle.std.specs.Prelude.{◌≡◌, ◌≢◌, ℕ, ◌+◌, ◌*◌, ◌<◌, ◌≤◌, List, [], ◌∷◌, ◌++◌, length, ◌⊎◌, Some, None, IsTrue, ◌||◌, ◌==◌}
use Rattle.rwsp_text.specs.Lexemes.{Lexeme, lexemes, lexemes_from, last_line, is_space}
use Rattle.rwsp_text.specs.Numbers.{number_of}
use Rattle.rwsp_terms.specs.declared.limits.TheConstants.{MOST_DAYS, MOST_WEEKS, MOST_CELLS, MOST_SHIFTS, GREATEST_BOUND, LONGEST_NAME}
use Rattle.rwsp_terms.specs.declared.data.Bounds.{Bounds}
use Rattle.rwsp_terms.specs.Instance.{Instance, off_name, name_numbered, shift_count, symbol_of}
use Rattle.rwsp_file.specs.Spelling.{SpellsProblem, IsDemand, on_line}
use Rattle.rwsp_file.specs.Reading.{first_misfit, limit_of, sequence_limit}
use Rattle.rwsp_file.specs.declared.limits.Limit.{Limit}
use Rattle.rwsp_file.specs.declared.misfit.Place.{Place}
use Rattle.rwsp_file.specs.declared.misfit.Place.TheVariants.{Days, Weeks, Shifts, Demand, ShiftName, Start, Minutes, LeastBlock, Sequences}
use Rattle.rwsp_file.specs.declared.misfit.Fault.{Fault}
use Rattle.rwsp_file.specs.declared.misfit.Fault.TheVariants.{NoNumber, Beyond, TooManyDays, WordCount, LongName, OffName, TakenName, NoSymbol, NotEnd}
use Rattle.rwsp_file.specs.declared.misfit.Misfit.{Misfit}
use Rattle.rwsp_file.specs.declared.misfit.Misfit.TheVariants.{TextEnds, BadWord}

-- a byte that no word has: a space, or the end of a line
abbrev pub IsGap : ℕ → Type 0
IsGap b = IsTrue (is_space b || (b == 10))

-- a word may end in front of these bytes: there are none, or the first is a gap
abbrev pub EndsWord : List ℕ → Type 0
EndsWord [] = Unit {0}
EndsWord (b ∷ bs) = IsGap b

-- a word may begin behind these bytes: there are none, or the last is a gap
abbrev pub BeginsWord : List ℕ → Type 0
BeginsWord front = (front ≡ []) ⊎ ((start : List ℕ) × (b : ℕ) × (front ≡ start ++ b ∷ []) × IsGap b)

-- the bytes can be gone on with to a text of an instance
abbrev pub CanGoOn : List ℕ → Type 0
CanGoOn front = (more : List ℕ) × (P : Instance) × SpellsProblem (front ++ more) P

-- the same with their last word as it is
abbrev pub CanGoOnBehind : List ℕ → Type 0
CanGoOnBehind bytes = (more : List ℕ) × EndsWord more × (P : Instance) × SpellsProblem (bytes ++ more) P

-- how many words stand in bytes before their first line ends, where that line has the number
abbrev pub words_left : ℕ → List ℕ → ℕ
words_left line bytes = length (on_line line (lexemes_from line bytes))

-- where the least length of a shift's blocks is awaited: not two further words stand on the line, with which the word
-- would be the fourth of six, a long name
abbrev pub IsNoLongName : Place → ℕ → Type 0
IsNoLongName (LeastBlock shift) left = left ≢ 2
IsNoLongName awaited left = Unit {0}

-- what a refusal rests on besides the bytes up to the end of the word: how many words of the line are left. A row is
-- refused for its count of words, and a row of five words has no long name
abbrev pub RestsOn : Place → Fault → ℕ → Type 0
RestsOn awaited (WordCount n) left = left + 1 ≡ n
RestsOn awaited fault left = IsNoLongName awaited left

-- the text is no demand, or elsewhere no number
abbrev pub IsNoNumber : Place → List ℕ → Type 0
IsNoNumber (Demand shift day) text = (range : Bounds) → IsDemand range text → ⊥
IsNoNumber awaited text = number_of text ≡ None

-- the limit of the numbers that are awaited at a place; where it is not said, that of the lengths of blocks
abbrev pub limit_at : Place → Limit
limit_at Days = limit_of 1 1 MOST_DAYS
limit_at Weeks = limit_of 2 1 MOST_WEEKS
limit_at Shifts = limit_of 4 1 MOST_SHIFTS
limit_at (Demand shift day) = limit_of 5 0 MOST_WEEKS
limit_at (Start shift) = limit_of 6 0 GREATEST_BOUND
limit_at (Minutes shift) = limit_of 6 0 GREATEST_BOUND
limit_at (Sequences kind) = sequence_limit kind
limit_at awaited = limit_of 7 0 GREATEST_BOUND

-- the number is not within the limit
abbrev pub IsOutside : Limit → ℕ → Type 0
IsOutside limit n = (n < limit.least) ⊎ (limit.greatest < n)

-- the text is a demand of which a number is not within the limit, or elsewhere such a number
abbrev pub IsBeyond : Place → Limit → List ℕ → Type 0
IsBeyond (Demand shift day) limit text =
    (range : Bounds) × IsDemand range text × (IsOutside limit range.least ⊎ IsOutside limit range.greatest)
IsBeyond awaited limit text = (n : ℕ) × (number_of text ≡ Some n) × IsOutside limit n

-- the number is that of a shift before the one whose name is awaited
abbrev pub IsEarlier : Place → ℕ → Type 0
IsEarlier (ShiftName shift) k = (1 ≤ k) × (k < shift)
IsEarlier awaited k = ⊥

-- what a fault says of the word is so, where a text of the instance begins with `front`, the bytes before the word:
-- the instance has the days, the earlier shift and the symbols that are spelled there, and it is whole where the text
-- should have ended
abbrev pub HasFault : (front : List ℕ) → Instance → Place → List ℕ → Fault → Type 0
HasFault front P awaited text NoNumber = IsNoNumber awaited text
HasFault front P awaited text (Beyond limit) = (limit ≡ limit_at awaited) × IsBeyond awaited limit text
HasFault front P awaited text (TooManyDays n days) =
    (number_of text ≡ Some n) × (days ≡ P.days) × (MOST_CELLS < n * days)
HasFault front P awaited text (WordCount n) = (n ≢ 5) × (n ≢ 6)
HasFault front P awaited text LongName = LONGEST_NAME < length text
HasFault front P awaited text OffName = text ≡ off_name
HasFault front P awaited text (TakenName k) =
    IsEarlier awaited k × (k ≤ shift_count P) × (text ≡ name_numbered P k)
HasFault front P awaited text NoSymbol = symbol_of P text ≡ None
HasFault front P awaited text NotEnd = SpellsProblem front P

-- the word is the first that fails: what stands before it can be gone on with to a text of an instance, and what
-- stands up to its end cannot
pub record IsFirstBad (bytes : List ℕ) (awaited : Place) (w : Lexeme) (fault : Fault) : Type 0 where
  pub front : List ℕ
  pub back : List ℕ
  pub whole : bytes ≡ front ++ w.text ++ back
  pub begins : BeginsWord front
  pub ends : EndsWord back
  pub line : w.line ≡ last_line front
  pub words : lexemes bytes ≡ lexemes front ++ w ∷ lexemes_from w.line back
  pub rests : RestsOn awaited fault (words_left w.line back)
  pub can : CanGoOn front
  pub cannot : (more : List ℕ) → EndsWord more → RestsOn awaited fault (words_left w.line more)
      → (P : Instance) → SpellsProblem (front ++ w.text ++ more) P → ⊥
  pub broken : (more : List ℕ) (P : Instance) → SpellsProblem (front ++ more) P → HasFault front P awaited w.text fault

-- a failure is the first: a text that ends too early can be gone on with, and a bad word is the first that fails
abbrev pub IsFirst : List ℕ → Misfit → Type 0
IsFirst bytes (TextEnds awaited line) = CanGoOnBehind bytes × (line ≡ last_line bytes)
IsFirst bytes (BadWord awaited w fault) = IsFirstBad bytes awaited w fault

-- the failure for which a text is refused is the first
abbrev pub RefusalsAreFirst : Type 0
RefusalsAreFirst = (bytes : List ℕ) (why : Misfit) → first_misfit bytes ≡ Some why → IsFirst bytes why
