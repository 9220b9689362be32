-- Given cells of rosters.
use Rattle.std.proofs.Common.{ℕ, ◌<◌, List, length, slice_index_or, All, sym, subst}
use Rattle.rwsp_terms.specs.declared.data.Symbol.{Symbol}
use Rattle.rwsp_terms.specs.Instance.{Instance}
use Rattle.rwsp_terms.specs.Roster.{MeetsAll}
use Rattle.refutation_terms.specs.declared.cells.GivenCell.{GivenCell}
use Rattle.refutation_terms.specs.GivenCells.{AreGivenIn}

-- each is a cell of a roster that meets every rule
pub cells_within : (P : Instance) (given : List GivenCell) (s : List Symbol) → AreGivenIn P given → MeetsAll P s → All (λ c. c.p < length s) given
cells_within P given s are meets = λ k d lt. subst (λ (n : ℕ). (slice_index_or given k d).p < n) (sym meets.is_roster.long) (are.1 k d lt).0
