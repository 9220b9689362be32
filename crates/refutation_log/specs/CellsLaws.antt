-- Laws of the texts of given cells.
use Rattle.std.specs.Prelude.{◌≡◌, ℕ, List, MatchOption}
use Rattle.rwsp_terms.specs.Instance.{Instance}
use Rattle.refutation_terms.specs.declared.cells.GivenCell.{GivenCell}
use Rattle.refutation_terms.specs.GivenCells.{AreGivenIn}
use Rattle.refutation_log.specs.CellsText.{SpellsGiven, refusal_of_cells}

-- a text spells one list of given cells at most
abbrev pub TextGivesOneList : Type 0
TextGivesOneList =
    (P : Instance) (bytes : List ℕ) (given other : List GivenCell)
    → SpellsGiven P bytes given → SpellsGiven P bytes other → given ≡ other

-- a text that isn't refused spells given cells, and one that is refused spells none
abbrev pub RefusalsDecideCells : Type 0
RefusalsDecideCells =
    (P : Instance) (bytes : List ℕ)
    → MatchOption (refusal_of_cells P bytes)
    ((given : List GivenCell) × SpellsGiven P bytes given)
    (λ why. (given : List GivenCell) → SpellsGiven P bytes given → ⊥)

-- what a text spells are cells of the problem
abbrev pub SpelledAreGiven : Type 0
SpelledAreGiven =
    (P : Instance) (bytes : List ℕ) (given : List GivenCell) → SpellsGiven P bytes given → AreGivenIn P given
