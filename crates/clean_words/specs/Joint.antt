-- Pairs of states of two tables as states of one.
use Rattle.std.specs.Prelude.{◌≡◌, ◌⊎◌, ℕ, ◌<◌, ◌≤◌, List, [], ◌++◌, length, Option, Some, None, slice_index, slice_index_or}
use Rattle.clean_words.specs.declared.joint.Both.{Both}
use Rattle.clean_words.specs.declared.table.Table.{Table}
use Rattle.clean_words.specs.Moves.{Moves, move_at}

abbrev pub no_pair : Both
no_pair = record { first = 0; second = 0 }

-- the element is at the place
abbrev pub StandsAt : {X : Type 0} → List X → ℕ → X → Type 0
StandsAt xs k x = (k < length xs) × (slice_index_or xs k x ≡ x)

-- the list is the other with some elements behind it
abbrev pub Extends : {X : Type 0} → List X → List X → Type 0
Extends {X} xs ys = (rest : List X) × (ys ≡ xs ++ rest)

-- the state behind a pair by the symbol of a number: the pair of where both tables lead, or none where one leads nowhere
abbrev pub Judges : Table → Table → List Both → Both → ℕ → Option ℕ → Type 0
Judges a b pairs pair x None =
    (move_at a.moves.items pair.first x ≡ None) ⊎ (move_at b.moves.items pair.second x ≡ None)
Judges a b pairs pair x (Some to) =
    (next : Both) × StandsAt pairs to next
    × (move_at a.moves.items pair.first x ≡ Some next.first) × (move_at b.moves.items pair.second x ≡ Some next.second)

-- the moves of a pair by the symbols below a number, and none by others
pub record IsRow (a b : Table) (pairs : List Both) (pair : Both) (symbols : ℕ) (row : List (Option ℕ)) : Type 0 where
  pub known : (x to : ℕ) → slice_index_or row x None ≡ Some to → x < symbols
  pub judges : (x : ℕ) → x < symbols → Judges a b pairs pair x (slice_index_or row x None)

-- the first pairs have their moves
pub record AreStates (a b : Table) (symbols : ℕ) (pairs : List Both) (moves : Moves) : Type 0 where
  pub done : length moves ≤ length pairs
  pub rows : (k : ℕ) (pair : Both) → k < length moves → StandsAt pairs k pair
      → IsRow a b pairs pair symbols (slice_index_or moves k [])

-- the state of the pair in which words begin
abbrev pub BeginsAt : Table → Table → List Both → List ℕ → ℕ → Type 0
BeginsAt a b pairs starts d =
    StandsAt pairs (slice_index starts d)
    (record { first = slice_index a.starts.items d; second = slice_index b.starts.items d })

-- for each day of the week, and the first is state 0
pub record AreStarts (a b : Table) (pairs : List Both) (starts : List ℕ) : Type 0 where
  pub long : length starts ≡ length a.starts.items
  pub first : slice_index starts 0 ≡ 0
  pub each : (d : ℕ) → d < length starts → BeginsAt a b pairs starts d
