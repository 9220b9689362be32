-- What a search size by size gives.
use Rattle.std.specs.Prelude.{◌≡◌, ℕ, ◌+◌, ◌≤◌, length, slice_get, Bool, Some}
use Rattle.rwsp_terms.specs.Instance.{Instance}
use Rattle.refutation_terms.specs.Log.{Log}
use Rattle.refutation_log.specs.declared.found.Found.TheVariants as Founds
use Rattle.refutation_log.specs.Planned.{IsPlanned, IsCountedLog}
use Rattle.crew_size.specs.Sizes.{with_weeks}
use Rattle.crew_size.specs.Texts.{Staff, next_size}
use Rattle.crew_size.specs.declared.run.StaffEnd.{StaffEnd}
use Rattle.crew_size.specs.declared.run.StaffEnd.TheVariants.{Least, NoneTo, Undecided}

-- the end is what a plan for m weeks finds, a roster or a log that has spent the budget; or all sizes up to the last
-- one were refuted
abbrev pub IsEnd : Instance → (high budget m : ℕ) → StaffEnd → Type 0
IsEnd P high budget m (Least s) = (m ≤ high) × IsPlanned (with_weeks P m) budget (Founds.Roster s)
IsEnd P high budget m NoneTo = m ≡ high + 1
IsEnd P high budget m (Undecided g) = (m ≤ high) × IsPlanned (with_weeks P m) budget (Founds.Undecided g)

-- each size from the first on has the log of a plan that finds no roster of that size, up to the end
pub record IsStaffed (P : Instance) (low high budget : ℕ) (run : Staff) : Type 0 where
  pub first : run.low ≡ low
  pub refuted : (k : ℕ) (g : Log)
      → slice_get run.logs k ≡ Some g → IsPlanned (with_weeks P (low + k)) budget (Founds.NoRoster g)
  pub end : IsEnd P high budget (low + length run.logs) run.end

-- the end, where it is a log, is as one of a plan which counts or not
abbrev pub IsEndCounted : Instance → Bool → ℕ → StaffEnd → Type 0
IsEndCounted P counts m (Undecided g) = IsCountedLog (with_weeks P m) counts g
IsEndCounted P counts m end = Unit {0}

-- each log of the run is, for its size, as one of a plan which counts or not
pub record IsStaffCounted (P : Instance) (counts : Bool) (run : Staff) : Type 0 where
  pub logs : (k : ℕ) (g : Log) → slice_get run.logs k ≡ Some g → IsCountedLog (with_weeks P (run.low + k)) counts g
  pub end : IsEndCounted P counts (next_size run) run.end
