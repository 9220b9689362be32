-- Moves between states by symbols.
use Rattle.std.specs.Prelude.{ℕ, ◌%◌, List, [], ◌∷◌, length, Option, Some, None, Bool, ◌==◌, slice_index, slice_index_or}
use Rattle.rwsp_terms.specs.declared.data.Symbol.{Symbol}

-- for each state, by the number of the symbol, the state that follows
abbrev pub Moves : Type 0
Moves = List (List (Option ℕ))

-- the state that follows by the symbol of a number, if any
abbrev pub move_at : Moves → ℕ → ℕ → Option ℕ
move_at moves state number = slice_index_or (slice_index_or moves state []) number None

-- the state where words from a position on begin, by the day of the week
abbrev pub start_at : List ℕ → ℕ → ℕ
start_at starts p = slice_index starts (p % length starts)

abbrev pub after : Moves → Option ℕ → Symbol → Option ℕ
after moves None x = None
after moves (Some s) x = move_at moves s x.number

-- where a word leads from a state; nowhere where some symbol has no move
abbrev pub lead : Moves → Option ℕ → List Symbol → Option ℕ
lead moves state [] = state
lead moves state (x ∷ u) = lead moves (after moves state x) u

-- whether a word ends with the day off; what is said of the empty word
abbrev pub off_behind : Bool → List Symbol → Bool
off_behind before [] = before
off_behind before (x ∷ u) = off_behind (x.number == 0) u
