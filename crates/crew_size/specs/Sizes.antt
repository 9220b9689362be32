-- A problem with another number of weeks.
use Rattle.std.specs.Prelude.{ℕ, ◌*◌, ◌≤◌}
use Rattle.rwsp_terms.specs.declared.limits.TheConstants.{MOST_WEEKS, MOST_CELLS}
use Rattle.rwsp_terms.specs.Instance.{Instance}

-- the problem with m weeks in place of its own, and all else the same; so the demand of the day off changes with m
abbrev pub with_weeks : Instance → ℕ → Instance
with_weeks P m = record P { weeks = m }

-- a number of weeks that the problem may have
pub record IsSize (P : Instance) (m : ℕ) : Type 0 where
  pub some : 1 ≤ m
  pub few : m ≤ MOST_WEEKS
  pub few_cells : m * P.days ≤ MOST_CELLS
