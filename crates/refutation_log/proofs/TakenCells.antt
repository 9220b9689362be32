-- The cells that have a symbol, taken one by one.
use Rattle.std.proofs.Common.{◌≡◌, ℕ, List, ◌++◌, drop, Option}
use Rattle.rwsp_terms.specs.declared.data.Symbol.{Symbol}
use Rattle.refutation_terms.specs.declared.cells.GivenCell.{GivenCell}
use Rattle.refutation_log.specs.CellsText.{given_from}

-- the cells that were taken from the front, and those that are left, make what the whole makes
abbrev pub TakesOn : List (Option Symbol) → ℕ → List GivenCell → Type 0
TakesOn said p given = given ++ given_from p (drop p said) ≡ given_from 0 said
