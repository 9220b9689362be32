-- What is found.
use Rattle.std.specs.Prelude.{◌≡◌, ℕ, ◌≤◌, List}
use Rattle.rwsp_terms.specs.Instance.{Instance}
use Rattle.rwsp_terms.specs.Roster.{MeetsAll}
use Rattle.refutation_terms.specs.FreeWeekends.{free_weekends}
use Rattle.refutation_terms.specs.declared.cells.GivenCell.{GivenCell}
use Rattle.refutation_terms.specs.GivenCells.{IsFilled}
use Rattle.rwsp_model.specs.declared.roster.Roster.{Roster}

-- a roster of the problem's days that meets every rule and has `free` free weekends at least
abbrev pub IsRosterWith : Instance → ℕ → Roster → Type 0
IsRosterWith P free s = (s.days ≡ P.days) × MeetsAll P s.cells × (free ≤ free_weekends s.cells)

-- a roster of the problem's days that meets every rule and holds each given cell
abbrev pub IsRosterHolding : Instance → List GivenCell → Roster → Type 0
IsRosterHolding P given s = (s.days ≡ P.days) × IsFilled P given s.cells
