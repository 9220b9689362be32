-- Tables of moves.
use Rattle.std.specs.Prelude.{◌≡◌, ◌⊎◌, ℕ, ◌<◌, ◌≤◌, List, [], length, Option, Some, false, ◌==◌, map, slice_index, slice_index_or, AllPairs, Contains}
use Rattle.std.specs.Option.{option_map}
use Rattle.rwsp_terms.specs.declared.data.Symbol.{Symbol}
use Rattle.rwsp_terms.specs.Instance.{Instance, shift_count}
use Rattle.refutation_terms.specs.Word.{Clean}
use Rattle.clean_words.specs.declared.step.Step.{Step}
use Rattle.clean_words.specs.declared.table.Table.{Table}
use Rattle.clean_words.specs.Moves.{Moves, move_at, lead, start_at, off_behind}
use Rattle.clean_words.specs.Automata.{HasSymbolsOf, StepBefore}

-- a table for the words of an instance
pub record IsTable (P : Instance) (t : Table) : Type 0 where
  pub days : length t.starts.items ≡ P.days
  pub long : length t.told.items ≡ length t.moves.items
  pub begins : (p : ℕ) → start_at t.starts.items p < length t.moves.items
  pub inside : (s x to : ℕ) → move_at t.moves.items s x ≡ Some to → (x ≤ shift_count P) × (to < length t.moves.items)

-- what the table tells of a word from a position on; none where the word leads nowhere
abbrev pub told_after : Table → ℕ → List Symbol → Option ℕ
told_after t p w = option_map (slice_index t.told.items) (lead t.moves.items (Some (start_at t.starts.items p)) w)

-- the one tells of each word what the other tells
abbrev pub TellsAs : Table → Table → Type 0
TellsAs t u = (p : ℕ) (w : List Symbol) → told_after u p w ≡ told_after t p w

-- the table goes along the words along which both go, and tells what the first tells
pub record GoesWithBoth (a b t : Table) : Type 0 where
  pub first : (p : ℕ) (w : List Symbol) (n : ℕ) → told_after t p w ≡ Some n → told_after a p w ≡ Some n
  pub second : (p : ℕ) (w : List Symbol) (n : ℕ) → told_after t p w ≡ Some n → (m : ℕ) × (told_after b p w ≡ Some m)
  pub both : (p : ℕ) (w : List Symbol) (n m : ℕ) → told_after a p w ≡ Some n → told_after b p w ≡ Some m
      → told_after t p w ≡ Some n

-- the table goes along the clean words of the problem's symbols, tells 1 exactly of those that end with the day off, and
-- its state 0 is where words begin on the first day
pub record IsReader (P : Instance) (R : List ℕ) (t : Table) : Type 0 where
  pub table : IsTable P t
  pub first : start_at t.starts.items 0 ≡ 0
  pub clean : (p : ℕ) (w : List Symbol) → HasSymbolsOf P w → Clean P R p w → (n : ℕ) × (told_after t p w ≡ Some n)
  pub reads : (p : ℕ) (w : List Symbol) (n : ℕ) → told_after t p w ≡ Some n → Clean P R p w
  pub off : (p : ℕ) (w : List Symbol) (n : ℕ) → told_after t p w ≡ Some n → (n == 1) ≡ off_behind false w

-- the class of the state tells the same, and has its moves, to the classes of where they lead
pub record IsKept (table small : Table) (classes : List ℕ) (state : ℕ) : Type 0 where
  pub known : slice_index classes state < length small.moves.items
  pub told : slice_index small.told.items (slice_index classes state) ≡ slice_index table.told.items state
  pub row : slice_index_or small.moves.items (slice_index classes state) []
      ≡ map (option_map (slice_index classes)) (slice_index_or table.moves.items state [])

-- each class has one of the states
abbrev pub HasStates : List ℕ → ℕ → ℕ → Type 0
HasStates classes states count = (c : ℕ) → c < count → (k : ℕ) × (k < states) × (slice_index classes k ≡ c)

-- the state is earlier, or it is the same and the number is lower
abbrev pub ComesBefore : ℕ → ℕ → ℕ → ℕ → Type 0
ComesBefore s x state number = (s < state) ⊎ ((s ≡ state) × (x < number))

-- the moves from states before this one, and its moves by symbols below the number, as steps in order
pub record AreStepsBefore (moves : Moves) (steps : List Step) (state number : ℕ) : Type 0 where
  pub ordered : AllPairs StepBefore steps
  pub before : (s : Step) → Contains steps s
      → ComesBefore s.from s.symbol.number state number × (move_at moves s.from s.symbol.number ≡ Some s.to)
  pub all : (s : ℕ) (x : Symbol) (t : ℕ) → ComesBefore s x.number state number → move_at moves s x.number ≡ Some t
      → Contains steps (record { from = s; symbol = x; to = t })
