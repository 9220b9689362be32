-- Logs of which some given cells are left out.
use Rattle.std.specs.Prelude.{◌≡◌, ℕ, ◌≤◌, List, length, Contains, Bool, false, ◌||◌, nat_lt, nat_le, filter}
use Rattle.rwsp_terms.specs.Instance.{Instance}
use Rattle.refutation_terms.specs.declared.cells.GivenCell.{GivenCell}
use Rattle.refutation_terms.specs.declared.lines.Opening.{Opening}
use Rattle.refutation_terms.specs.declared.lines.Opening.TheVariants.{Given}
use Rattle.refutation_terms.specs.Log.{Log, Passes}
use Rattle.refutation_terms.specs.Strip.{cells_given, NeedsEachCell, NeedsEachRule}
use Rattle.refutation_log.specs.Filled.{GivesOnly}
use Rattle.refutation_checker.specs.LogVerdicts.{with_opening}

-- the position isn't one of those from the one on and before the other
abbrev pub is_outside : ℕ → ℕ → ℕ → Bool
is_outside from to p = nat_lt p from || nat_le to p

-- the given cells without those at such positions
abbrev pub cells_outside : ℕ → ℕ → List GivenCell → List GivenCell
cells_outside from to given = filter (λ c. is_outside from to c.p) given

abbrev pub opening_outside : ℕ → ℕ → Opening → Opening
opening_outside from to (Given given) = Given (cells_outside from to given)
opening_outside from to o = o

-- how many cells are given
abbrev pub cell_count : Opening → ℕ
cell_count o = length (cells_given o)

-- some of the cells are given and no others. What gives no cells stays as it is
abbrev pub GivesNoMore : Opening → Opening → Type 0
GivesNoMore (Given given) o = GivesOnly given o
GivesNoMore o other = other ≡ o

-- with the second opening, which gives no more than the first, the log passes
pub record PassesWithFewer (P : Instance) (g : Log) (before after : Opening) : Type 0 where
  pub passes : Passes P (with_opening after g)
  pub no_more : GivesNoMore before after
  pub count : cell_count after ≤ cell_count before

-- and as many cells are given only where nothing was left out, since the log doesn't pass without those at these
-- positions, if there are any
pub record IsPartLeft (P : Instance) (g : Log) (from to : ℕ) (before after : Opening) : Type 0 where
  pub fewer : PassesWithFewer P g before after
  pub needed : cell_count after ≡ cell_count before → (after ≡ before)
      × ((c : GivenCell) → Contains (cells_given before) c → is_outside from to c.p ≡ false
      → Passes P (with_opening (opening_outside from to before) g) → ⊥)

-- cells were left out in parts of so many positions. As many are given only where nothing was left out, and then parts
-- of one position tell that each cell is needed
pub record AreCellsLeft (P : Instance) (g : Log) (size : ℕ) (before after : Opening) : Type 0 where
  pub fewer : PassesWithFewer P g before after
  pub needed : cell_count after ≡ cell_count before → (after ≡ before)
      × (size ≡ 1 → NeedsEachCell P (with_opening before g))

-- the same of a log with its opening
pub record LosesCells (P : Instance) (size : ℕ) (before after : Log) : Type 0 where
  pub same : after ≡ with_opening after.opening before
  pub left : AreCellsLeft P before size before.opening after.opening

-- a round over the cells and the rules leaves a log that passes. It has as many of both only where nothing was left
-- out, and then each is needed
pub record IsRound (P : Instance) (before after : Log) : Type 0 where
  pub passes : Passes P after
  pub cells : cell_count after.opening ≤ cell_count before.opening
  pub rules : length after.named ≤ length before.named
  pub needed : cell_count after.opening ≡ cell_count before.opening → length after.named ≡ length before.named
      → NeedsEachCell P after × NeedsEachRule P after
