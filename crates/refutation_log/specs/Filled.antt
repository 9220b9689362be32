-- What a search behind given cells finds.
use Rattle.std.specs.Prelude.{◌≡◌, ◌⊎◌, ℕ, ◌≤◌, List, [], ◌∷◌, None, true, Contains}
use Rattle.rwsp_terms.specs.declared.data.Symbol.{Symbol}
use Rattle.rwsp_terms.specs.Instance.{Instance}
use Rattle.refutation_terms.specs.declared.lines.Line.TheVariants.{Closing}
use Rattle.refutation_terms.specs.declared.lines.Leaf.TheVariants.{Blocks}
use Rattle.refutation_terms.specs.declared.lines.Opening.{Opening}
use Rattle.refutation_terms.specs.declared.lines.Opening.TheVariants.{Given}
use Rattle.refutation_terms.specs.declared.cells.GivenCell.{GivenCell}
use Rattle.refutation_terms.specs.GivenCells.{IsFilled}
use Rattle.refutation_terms.specs.BlocksLeaf.{IsFirstBlocks, NoBlocksHold}
use Rattle.refutation_terms.specs.Log.{Log, Passes, IsSpent, NamesOnlyCited, size}
use Rattle.refutation_terms.specs.Sharp.{IsSharp}
use Rattle.refutation_terms.specs.Strip.{NeedsEachCell, NeedsEachRule}
use Rattle.refutation_log.specs.declared.found.Found.{Found}
use Rattle.refutation_log.specs.declared.found.Found.TheVariants.{Roster, NoRoster, Undecided}

-- some of these cells are given, and no others
abbrev pub GivesOnly : List GivenCell → Opening → Type 0
GivesOnly given o =
    (some : List GivenCell) × (o ≡ Given some) × ((c : GivenCell) → Contains some c → Contains given c)

-- a log that gives some of the cells and passes, within the budget, and needs each of its cells and of its rules
pub record IsFillProof (P : Instance) (given : List GivenCell) (budget : ℕ) (g : Log) : Type 0 where
  pub passes : Passes P g
  pub gives : GivesOnly given g.opening
  pub no_goal : g.goal ≡ None
  pub may_count : g.counts ≡ true
  pub small : size g ≤ budget
  pub cells : NeedsEachCell P g
  pub rules : NeedsEachRule P g

-- a sharp log that gives all the cells and has spent the budget. It names the rules that it cites and no more
pub record IsFillUndecided (P : Instance) (given : List GivenCell) (budget : ℕ) (g : Log) : Type 0 where
  pub spent : IsSpent P g budget
  pub all_cells : g.opening ≡ Given given
  pub no_goal : g.goal ≡ None
  pub may_count : g.counts ≡ true
  pub cited : NamesOnlyCited P g
  pub sharp : IsSharp P g

-- a roster that meets every rule and holds the cells; or a log that passes; or one that has spent the budget
abbrev pub IsFilledWith : Instance → List GivenCell → ℕ → Found → Type 0
IsFilledWith P given budget (Roster s) = (s.days ≡ P.days) × IsFilled P given s.cells
IsFilledWith P given budget (NoRoster g) = IsFillProof P given budget g
IsFilledWith P given budget (Undecided g) = IsFillUndecided P given budget g

-- a log that passes and gives no cells, whose tree is the first leaf of blocks. It names the rules that this cites, and
-- no more
pub record IsCountedFill (P : Instance) (g : Log) : Type 0 where
  pub passes : Passes P g
  pub no_cells : g.opening ≡ Given []
  pub one_leaf : (x : Symbol) × IsFirstBlocks P x × (g.lines ≡ Closing (Blocks x) ∷ [])
  pub cited : NamesOnlyCited P g

-- blocks were counted first: no leaf of blocks holds, or such a log is found
abbrev pub IsCountedFirst : Instance → Found → Type 0
IsCountedFirst P found = NoBlocksHold P ⊎ ((g : Log) × IsCountedFill P g × (found ≡ NoRoster g))
