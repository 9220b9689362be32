-- How far the search for the nearest number of steps has come.
use Rattle.std.specs.Prelude.{ℕ, ◌<◌, ◌≤◌}
use Rattle.rwsp_terms.specs.Instance.{Instance}
use Rattle.roster_planner.specs.declared.effort.Effort.{Effort}
use Rattle.ways_out.specs.declared.change.Change.{Change}
use Rattle.ways_out.specs.declared.nearest.Reached.{Reached}
use Rattle.ways_out.specs.declared.nearest.Doubled.{Doubled}
use Rattle.ways_out.specs.Loosened.{loosened, IsStep}
use Rattle.ways_out.specs.Helping.{HasNone, IsLeftOpen, NoneFoundBelow}

-- with up to so many steps there is no roster
abbrev pub NoneUpTo : Instance → Change → ℕ → Type 0
NoneUpTo P change n = (m : ℕ) → IsStep P change m → m ≤ n → HasNone (loosened P change m)

-- with up to so many steps there is no roster. The most that were tried gave none: where these are more, they were left
-- open
pub record HasReached (P : Instance) (effort : Effort) (change : Change) (r : Reached) : Type 0 where
  pub order : r.shut ≤ r.tried
  pub none : NoneUpTo P change r.shut
  pub left : r.shut < r.tried → IsStep P change r.tried × IsLeftOpen (loosened P change r.tried) effort

-- of one step, two, four and so on below the end none was found to give a roster, and so of those that are reached
pub record HasDoubled (P : Instance) (effort : Effort) (change : Change) (d : Doubled) : Type 0 where
  pub reached : HasReached P effort change d.reached
  pub order : d.reached.tried < d.end
  pub step : IsStep P change d.end
  pub fewer : NoneFoundBelow P effort change d.end
