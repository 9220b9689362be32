-- Rows that are kept, and the word that is made by them.
use Rattle.std.specs.Prelude.{◌≡◌, ℕ, ◌+◌, ◌-◌, ◌*◌, ◌/◌, ◌<◌, List, [], ◌++◌, length, slice_index_or, ℤ}
use Rattle.rwsp_terms.specs.declared.data.Symbol.{Symbol}
use Rattle.clean_words.specs.declared.kept_rows.TheConstants.{STRIDE}
use Rattle.clean_words.specs.Rows.{Row}
use Rattle.clean_words.specs.Trellis.{Trellis, start_of, IsRow, Leads, IsBest}

-- the rows with 0, 128, 256, .. days behind them, of those with fewer than this
abbrev pub AreKept : Trellis → ℕ → List Row → Type 0
AreKept T left rows =
    (length rows ≡ (left + (STRIDE - 1)) / STRIDE)
    × ((i : ℕ) → i < length rows → IsRow T (T.days - i * STRIDE) (slice_index_or rows i []))

-- symbols that are the first days of the best word, and the state where they lead: the best word from there makes the
-- best of all
pub record IsOnBest (T : Trellis) (symbols : List Symbol) (state : ℕ) : Type 0 where
  pub state_in : state < length T.automaton.moves
  pub some : (u : List Symbol) × (w : ℤ) × Leads T (length symbols) state u w
  pub completes :
      (u : List Symbol) (w : ℤ) → IsBest T (length symbols) state u w → (v : ℤ) × IsBest T 0 (start_of T) (symbols ++ u) v
