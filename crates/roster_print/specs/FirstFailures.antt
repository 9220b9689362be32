-- What a refusal names: the first thing of the text that fails, up to which the text could have spelled a roster.
use Rattle.std.specs.Prelude.{◌≡◌, ◌≢◌, ◌⊎◌, ℕ, ◌+◌, ◌<◌, ◌≤◌, List, [], ◌∷◌, ◌++◌, length, Some, None, ◌==◌, All, count_by}
use Rattle.std.specs.List.{Any}
use Rattle.rwsp_text.specs.Lexemes.{lines_of, words_of_line}
use Rattle.rwsp_text.specs.Lines.{HasNoFeed}
use Rattle.rwsp_terms.specs.Instance.{Instance, symbol_of}
use Rattle.rwsp_terms.specs.declared.data.Symbol.{Symbol}
use Rattle.roster_print.specs.RosterText.{weeks_of, SpellsRoster}
use Rattle.roster_print.specs.declared.refusal.RosterRefusal.{RosterRefusal}
use Rattle.roster_print.specs.declared.refusal.RosterRefusal.TheVariants.{Unknown, Width, Weeks}

-- the word is the name of a symbol
abbrev pub IsName : Instance → List ℕ → Type 0
IsName P word = (x : Symbol) × (symbol_of P word ≡ Some x)

-- the words are a week of a roster: one for each day, and each a symbol's name
pub record IsWeek (P : Instance) (words : List (List ℕ)) : Type 0 where
  pub days : length words ≡ P.days
  pub names : All (IsName P) words

-- each line of the text is without words or a week
abbrev pub HasWeeksOnly : Instance → List ℕ → Type 0
HasWeeksOnly P text = All (λ line. (words_of_line line ≡ []) ⊎ IsWeek P (words_of_line line)) (lines_of text)

-- a word is no symbol's name
abbrev pub HasUnknown : Instance → List (List ℕ) → Type 0
HasUnknown P words = Any (λ word. symbol_of P word ≡ None) words

-- there are words, and each is a symbol's name, but they are not as many as the days
pub record HasWrongWidth (P : Instance) (words : List (List ℕ)) : Type 0 where
  pub some : words ≢ []
  pub names : All (IsName P) words
  pub width : length words ≢ P.days

-- the text is empty or ends with a line feed
abbrev pub EndsWithFeed : List ℕ → Type 0
EndsWithFeed text = (text ≡ []) ⊎ ((start : List ℕ) × (text ≡ start ++ 10 ∷ []))

-- the text is empty or begins with a line feed
abbrev pub BeginsWithFeed : List ℕ → Type 0
BeginsWithFeed text = (text ≡ []) ⊎ ((rest : List ℕ) × (text ≡ 10 ∷ rest))

-- some text behind this one makes it spell a roster
abbrev pub CanGoOn : Instance → List ℕ → Type 0
CanGoOn P text = (more : List ℕ) × (s : List Symbol) × SpellsRoster P (text ++ more) s

-- no text behind this one, whose last line is whole, makes it spell a roster
abbrev pub CannotGoOn : Instance → List ℕ → Type 0
CannotGoOn P text = (more : List ℕ) → BeginsWithFeed more → (s : List Symbol) → SpellsRoster P (text ++ more) s → ⊥

-- the line with this number is the first whose words are no week: the text in front of it can be gone on with as
-- long as it hasn't too many weeks, and with the line none can
pub record LineFails (P : Instance) (Fault : List (List ℕ) → Type 0) (bytes : List ℕ) (number : ℕ) : Type 0 where
  pub front : List ℕ
  pub line : List ℕ
  pub back : List ℕ
  pub whole : bytes ≡ front ++ line ++ back
  pub begins : EndsWithFeed front
  pub unbroken : HasNoFeed line
  pub ends : BeginsWithFeed back
  pub place : number ≡ count_by (λ b. b == 10) front + 1
  pub earlier : HasWeeksOnly P front
  pub fault : Fault (words_of_line line)
  pub can : length (weeks_of front) ≤ P.weeks → CanGoOn P front
  pub cannot : CannotGoOn P (front ++ line)

-- each line is without words or a week, and only the number of weeks is wrong: with too few the text can be gone on
-- with behind a line feed, and with too many it can't
pub record CountFails (P : Instance) (bytes : List ℕ) (count : ℕ) : Type 0 where
  pub lines : HasWeeksOnly P bytes
  pub counted : count ≡ length (weeks_of bytes)
  pub other : count ≢ P.weeks
  pub few : count < P.weeks → CanGoOn P (bytes ++ 10 ∷ [])
  pub many : P.weeks < count → CannotGoOn P bytes

-- what the refusal names is the first thing of the text that fails
abbrev pub IsFirstFailure : Instance → List ℕ → RosterRefusal → Type 0
IsFirstFailure P bytes (Unknown number) = LineFails P (HasUnknown P) bytes number
IsFirstFailure P bytes (Width number) = LineFails P (HasWrongWidth P) bytes number
IsFirstFailure P bytes (Weeks count) = CountFails P bytes count
