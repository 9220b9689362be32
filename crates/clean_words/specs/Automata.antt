-- The automaton of a list of rules.
use Rattle.std.specs.Prelude.{◌≡◌, ◌⊎◌, ◌↔◌, ℕ, ◌<◌, ◌≤◌, List, [], ◌∷◌, length, Some, Bool, false, slice_index_or, AllPairs, Contains}
use Rattle.rwsp_terms.specs.declared.data.Symbol.{Symbol}
use Rattle.rwsp_terms.specs.Instance.{Instance, shift_count}
use Rattle.refutation_terms.specs.Word.{Clean}
use Rattle.clean_words.specs.declared.step.Step.{Step}
use Rattle.clean_words.specs.Moves.{Moves, move_at, lead, start_at, off_behind}

pub record RuleAutomaton : Type 0 where
  pub problem : Instance
  -- the numbers of the rules
  pub rules : List ℕ
  -- for each day of the week the state where words begin
  pub starts : List ℕ
  pub moves : Moves
  -- for each state whether the words that lead there end with the day off
  pub offs : List Bool
  -- the moves as steps
  pub steps : List Step

-- the word is one of the problem's symbols
abbrev pub HasSymbolsOf : Instance → List Symbol → Type 0
HasSymbolsOf P [] = Unit {0}
HasSymbolsOf P (x ∷ u) = (x.number ≤ shift_count P) × HasSymbolsOf P u

-- the one step is from an earlier state, or from the same by a lower symbol
abbrev pub StepBefore : Step → Step → Type 0
StepBefore a b = (a.from < b.from) ⊎ ((a.from ≡ b.from) × (a.symbol.number < b.symbol.number))

-- the state where words from a position on begin
abbrev pub begin_at : RuleAutomaton → ℕ → ℕ
begin_at a p = start_at a.starts p

-- what holds of each automaton: the words that it reads from a position on are the clean ones
pub record IsAutomaton (a : RuleAutomaton) : Type 0 where
  pub days : length a.starts ≡ a.problem.days
  pub some : 0 < length a.moves
  pub offs : length a.offs ≡ length a.moves
  -- each state where words begin is one, and from position 0 on that is state 0
  pub begins : (p : ℕ) → begin_at a p < length a.moves
  pub first : begin_at a 0 ≡ 0
  -- moves are by the problem's symbols, and lead to states
  pub inside : (s x t : ℕ) → move_at a.moves s x ≡ Some t → (x ≤ shift_count a.problem) × (t < length a.moves)
  -- each clean word of the problem's symbols leads somewhere
  pub clean : (p : ℕ) (w : List Symbol) → HasSymbolsOf a.problem w → Clean a.problem a.rules p w
      → (s : ℕ) × (lead a.moves (Some (begin_at a p)) w ≡ Some s)
  -- a word that leads somewhere is clean
  pub reads : (p : ℕ) (w : List Symbol) (s : ℕ) → lead a.moves (Some (begin_at a p)) w ≡ Some s → Clean a.problem a.rules p w
  pub off : (p : ℕ) (w : List Symbol) (s : ℕ) → lead a.moves (Some (begin_at a p)) w ≡ Some s
      → slice_index_or a.offs s false ≡ off_behind false w
  -- the steps are the moves, in order
  pub ordered : AllPairs StepBefore a.steps
  pub stepped : (s : ℕ) (x : Symbol) (t : ℕ) → Contains a.steps (record { from = s; symbol = x; to = t })
      ↔ (move_at a.moves s x.number ≡ Some t)
