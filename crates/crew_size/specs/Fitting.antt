-- Which runs have a text.
use Rattle.std.specs.Prelude.{◌≡◌, ◌≢◌, ℕ, ◌+◌, [], slice_get, Some}
use Rattle.rwsp_terms.specs.Instance.{Instance}
use Rattle.rwsp_terms.specs.Roster.{IsRoster}
use Rattle.refutation_terms.specs.Log.{Log, Fits}
use Rattle.crew_size.specs.Sizes.{with_weeks, IsSize}
use Rattle.crew_size.specs.Texts.{Staff, next_size}
use Rattle.crew_size.specs.declared.run.StaffEnd.{StaffEnd}
use Rattle.crew_size.specs.declared.run.StaffEnd.TheVariants.{Least, NoneTo, Undecided}

-- the end fits the problem with m weeks
abbrev pub EndFits : Instance → ℕ → StaffEnd → Type 0
EndFits P m (Least s) = IsSize P m × (s.days ≡ P.days) × IsRoster (with_weeks P m) s.cells
EndFits P m NoneTo = Unit {0}
EndFits P m (Undecided g) = IsSize P m × Fits (with_weeks P m) g

-- each log and the end fit the problem with their number of weeks, and there is a log where no roster was found
pub record FitsSizes (P : Instance) (run : Staff) : Type 0 where
  pub sizes : (k : ℕ) (g : Log) → slice_get run.logs k ≡ Some g → IsSize P (run.low + k)
  pub logs : (k : ℕ) (g : Log) → slice_get run.logs k ≡ Some g → Fits (with_weeks P (run.low + k)) g
  pub end : EndFits P (next_size run) run.end
  pub some : run.end ≡ NoneTo → run.logs ≢ []
