-- Cells that are given beforehand, and the rosters that hold them.
use Rattle.std.specs.Prelude.{◌≡◌, ◌<◌, List, map, All, slice_get, Some}
use Rattle.std.specs.List.Sorted.{IsStrictlyIncreasing}
use Rattle.rwsp_terms.specs.declared.data.Symbol.{Symbol}
use Rattle.rwsp_terms.specs.Instance.{Instance, cells, IsSymbol}
use Rattle.rwsp_terms.specs.Roster.{MeetsAll}
use Rattle.refutation_terms.specs.declared.cells.GivenCell.{GivenCell}

-- cells of the problem's rosters: their positions ascend, and each has one of its symbols
abbrev pub AreGivenIn : Instance → List GivenCell → Type 0
AreGivenIn P given = IsStrictlyIncreasing (map (λ c. c.p) given) × All (λ c. (c.p < cells P) × IsSymbol P c.x) given

-- the roster has each given cell
abbrev pub HoldsCells : List GivenCell → List Symbol → Type 0
HoldsCells given s = All (λ c. slice_get s c.p ≡ Some c.x) given

-- it meets every rule too
abbrev pub IsFilled : Instance → List GivenCell → List Symbol → Type 0
IsFilled P given s = MeetsAll P s × HoldsCells given s
