-- What is told of answers, line by line.
use Rattle.std.specs.Prelude.{ℕ, ◌+◌, ◌/◌, ◌%◌, List, [], ◌∷◌, ◌++◌, Bool, if◌then◌else◌}
use Rattle.std.specs.Fmt.{decimal}
use Rattle.std.specs.List.{flat_map}
use Rattle.rwsp_terms.specs.declared.data.Symbol.{Symbol}
use Rattle.rwsp_terms.specs.Instance.{Instance}
use Rattle.refutation_terms.specs.declared.lines.Turn.{Turn}
use Rattle.refutation_terms.specs.declared.cells.GivenCell.{GivenCell}
use Rattle.crew_size.specs.Sizes.{with_weeks}
use Rattle.plain_words.specs.declared.part.Part.{Part}
use Rattle.plain_words.specs.declared.part.Part.TheVariants.{Number, Weeks, Works, Held, Rule, Of}
use Rattle.plain_words.specs.declared.reason.Rosters.{Rosters}
use Rattle.plain_words.specs.declared.reason.Rosters.TheVariants.{Every}
use Rattle.plain_words.specs.declared.statement.Teller.{Teller}
use Rattle.plain_words.specs.Words.{symbol_words}
use Rattle.plain_words.specs.Filled.{filled}
use Rattle.plain_words.specs.Counting.{counted_words}
use Rattle.plain_words.specs.Fixed.{fixed}
use Rattle.plain_words.specs.declared.pieces.TheConstants.{ALONE, AND_RULE, AND_RULES, APART, BLANK, BY_NUMBERS, CELL, COMMA, DAY_OFF, ESCAPES, FOR_WEEKS, LINE_END, NUMBERED_RULE, ONLY_TURN, TOGETHER, TOLD, WHATEVER, WHATEVER_RULES}

-- a line of what is told
pub data Statement : Type 0 where
  -- a sentence, and what stands in its holes
  Says : (text : List ℕ) (parts : List Part) → Statement
  -- one behind a name or a date
  Headed : (head text : List ℕ) → Statement
  -- the rule of this number
  Named : (k : ℕ) → Statement
  -- of the rule of this number only that somebody has the symbol of the turn on its day
  OnlyTurn : (k : ℕ) (t : Turn) → Statement
  -- no number of blocks of the symbol has as many days as the demand asks for, behind these words of a log that counts
  Counted : (head : List ℕ) (x : Symbol) → Statement
  -- no such roster meets the rules with these numbers together
  ByNumbers : (w : Rosters) (R : List ℕ) → Statement
  -- these cells and the rules with these numbers can't stand together
  Cells : (given : List GivenCell) (R : List ℕ) → Statement
  -- these days in a row escape a line of a log
  Escapes : (line : ℕ) (word : List Symbol) → Statement
  -- what is said of the problem with another number of weeks
  OfSize : (m : ℕ) (s : Statement) → Statement
  -- the same behind that number
  ForSize : (m : ℕ) (s : Statement) → Statement

-- a sentence without holes
abbrev pub plain : List ℕ → Statement
plain text = Says text []

-- the statement, where the test says so
abbrev pub said_if : Bool → Statement → List Statement
said_if b s = if b then s ∷ [] else []

-- a symbol behind another
unfoldable pub next_symbol : Instance → Symbol → List ℕ
next_symbol P x = fixed COMMA.now ++ symbol_words P x DAY_OFF.now

unfoldable pub row_words : Instance → List Symbol → List ℕ
row_words P [] = []
row_words P (x ∷ xs) = symbol_words P x DAY_OFF.now ++ flat_map (next_symbol P) xs

-- this text before rules, or that it is whatever the rules where there are none
abbrev pub rules_text : (some R : List ℕ) → List ℕ
rules_text some [] = WHATEVER.now
rules_text some (k ∷ R) = some

-- said before them behind cells: `and rule 9`, or `and rules 2 5 9`
abbrev pub and_text : List ℕ → List ℕ
and_text [] = WHATEVER_RULES.now
and_text (k ∷ []) = AND_RULE.now
and_text (k ∷ n ∷ R) = AND_RULES.now

-- a number behind a blank
unfoldable pub next_number : ℕ → List ℕ
next_number n = fixed BLANK.now ++ decimal n

-- the week and the day of a cell, both from 1 on, and what it holds, before others or before the rules:
-- `week 2 day 3 Night, `
unfoldable pub given_words : Instance → GivenCell → List ℕ
given_words P c = filled P CELL.now (Number (c.p / P.days + 1) ∷ Number (c.p % P.days + 1) ∷ Held c.x ∷ [])

-- that these cells and these rules can't stand together; or that the rules alone leave no roster
unfoldable pub cells_words : Instance → List GivenCell → List ℕ → List ℕ
cells_words P [] R = fixed ALONE.now ++ filled P (rules_text TOGETHER.now R) (Of Every ∷ [])
cells_words P (c ∷ given) R =
    fixed APART.now ++ flat_map (given_words P) (c ∷ given) ++ fixed (and_text R) ++ flat_map next_number R

-- in front of a sentence about the problem with so many weeks: `with 3 weeks: `
abbrev pub size_words : Instance → (m : ℕ) → List ℕ
size_words P m = filled P FOR_WEEKS.now (Weeks m ∷ [])

-- the words of a statement
unfoldable pub statement_words : Instance → Statement → List ℕ
statement_words P (Says text parts) = filled P text parts
statement_words P (Headed head text) = fixed head ++ fixed text
statement_words P (Named k) = filled P NUMBERED_RULE.now (Number k ∷ Rule k ∷ [])
statement_words P (OnlyTurn k t) = filled P ONLY_TURN.now (Number k ∷ Works t.x ∷ Number t.day ∷ [])
statement_words P (Counted head x) = fixed head ++ counted_words P x
statement_words P (ByNumbers w R) = filled P (rules_text BY_NUMBERS.now R) (Of w ∷ []) ++ flat_map next_number R
statement_words P (Cells given R) = cells_words P given R
statement_words P (Escapes line word) = filled P ESCAPES.now (Number line ∷ []) ++ row_words P word
statement_words P (OfSize m s) = statement_words (with_weeks P m) s
statement_words P (ForSize m s) = size_words P m ++ statement_words (with_weeks P m) s

-- the line of a statement, behind this front
unfoldable pub line : (front : List ℕ) → Instance → Statement → List ℕ
line front P s = fixed front ++ statement_words P s ++ fixed LINE_END.now

-- the same behind the front of a teller, and those of several
abbrev pub said : Teller → Statement → List ℕ
said by s = line by.front.now by.problem.now s

abbrev pub lines : Teller → List Statement → List ℕ
lines by statements = flat_map (line by.front.now by.problem.now) statements

-- the same as the program tells them
abbrev pub told_line : Instance → Statement → List ℕ
told_line P s = line TOLD.now P s

abbrev pub told_lines : Instance → List Statement → List ℕ
told_lines P statements = flat_map (told_line P) statements
