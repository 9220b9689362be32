-- Whether a problem has a roster once something is loosened.
use Rattle.std.specs.Prelude.{◌≡◌, ℕ, ◌+◌, ◌^◌, ◌<◌, ◌⊎◌, List, Bool, true, false}
use Rattle.rwsp_terms.specs.declared.data.Symbol.{Symbol}
use Rattle.rwsp_terms.specs.Instance.{Instance}
use Rattle.rwsp_terms.specs.Roster.{MeetsAll}
use Rattle.rwsp_terms.specs.Rules.{Meets}
use Rattle.refutation_terms.specs.Log.{Log}
use Rattle.refutation_log.specs.Planned.{IsPlanned, IsCounted}
use Rattle.refutation_log.specs.declared.found.Found.{Found}
use Rattle.refutation_log.specs.declared.found.Found.TheVariants.{Undecided}
use Rattle.roster_planner.specs.declared.effort.Effort.{Effort}
use Rattle.ways_out.specs.declared.change.Change.{Change}
use Rattle.ways_out.specs.declared.change.Outcome.{Outcome}
use Rattle.ways_out.specs.declared.change.Outcome.TheVariants.{Helps, Shut, Open}
use Rattle.ways_out.specs.Loosened.{exact, loosened, most_steps, IsStep}
use Rattle.ways_out.specs.Together.{IsOfDemand}

-- some roster meets every rule
abbrev pub HasRoster : Instance → Type 0
HasRoster P = (s : List Symbol) × MeetsAll P s

-- none does
abbrev pub HasNone : Instance → Type 0
HasNone P = (s : List Symbol) → MeetsAll P s → ⊥

-- no roster meets the rules of the list
abbrev pub Refutes : Instance → List ℕ → Type 0
Refutes P named = (s : List Symbol) → Meets P named s → ⊥

-- what a plan of the instance with this effort finds
abbrev pub IsPlan : Instance → Effort → Found → Type 0
IsPlan P effort found = IsPlanned P effort.budget found × IsCounted P effort.counts found

-- a log of the instance, as a plan with this effort writes it, has spent the budget
abbrev pub IsLeftOpen : Instance → Effort → Type 0
IsLeftOpen P effort = (g : Log) × IsPlan P effort (Undecided g)

-- with fewer steps of the change there is no roster
abbrev pub IsNearest : Instance → Change → ℕ → Type 0
IsNearest P change n = (m : ℕ) → IsStep P change m → m < n → HasNone (loosened P change m)

-- no roster meets every rule, or a plan has spent its budget
abbrev pub IsUnfound : Instance → Effort → Type 0
IsUnfound P effort = HasNone P ⊎ IsLeftOpen P effort

-- of one step, two, four and so on, as far as these are fewer than so many, none was found to give a roster
abbrev pub NoneFoundBelow : Instance → Effort → Change → ℕ → Type 0
NoneFoundBelow P effort change n = (k : ℕ) → 2 ^ k < n → IsUnfound (loosened P change (2 ^ k)) effort

-- the plan with one step fewer has spent its budget, and nor was a roster found with one step, two, four and so on
abbrev pub IsNearerOpen : Instance → Effort → Change → ℕ → Type 0
IsNearerOpen P effort change n =
    NoneFoundBelow P effort change n
    × (m : ℕ) × IsStep P change m × (m + 1 ≡ n) × IsLeftOpen (loosened P change m) effort

abbrev pub IsNearestIf : Bool → Instance → Effort → Change → ℕ → Type 0
IsNearestIf true P effort change n = IsNearest P change n
IsNearestIf false P effort change n = IsNearerOpen P effort change n

-- the steps give the instance a roster. They are the nearest, or one step fewer was left open
pub record HelpsWith (P : Instance) (effort : Effort) (change : Change) (n : ℕ) (is_nearest : Bool) : Type 0 where
  pub step : IsStep P change n
  pub roster : HasRoster (loosened P change n)
  pub nearest : IsNearestIf is_nearest P effort change n

-- no number of steps of the change gives the instance a roster
abbrev pub HelpsNever : Instance → Change → Type 0
HelpsNever P change = (n : ℕ) → IsStep P change n → HasNone (loosened P change n)

-- with so many steps of a demand's change there is no roster, and the plan of the next number alone has spent its
-- budget
pub record IsNextOpen (P : Instance) (effort : Effort) (change : Change) (n : ℕ) : Type 0 where
  pub further : n < most_steps P change
  pub none : HasNone (loosened P change n)
  pub next : IsLeftOpen (exact P change (n + 1)) effort

-- no plan that was made found a roster: that with all steps has spent its budget; with one step, two, four and so on
-- there is none, or the plan has spent its budget; and so it is with one number of a demand after the other
pub record IsOpen (P : Instance) (effort : Effort) (change : Change) : Type 0 where
  pub step : IsStep P change (most_steps P change)
  pub utmost : IsLeftOpen (loosened P change (most_steps P change)) effort
  pub fewer : NoneFoundBelow P effort change (most_steps P change)
  pub numbers : IsOfDemand change → (n : ℕ) × IsNextOpen P effort change n

-- what an outcome says of a change
abbrev pub IsOutcome : Instance → Effort → Change → Outcome → Type 0
IsOutcome P effort change (Helps n is_nearest) = HelpsWith P effort change n is_nearest
IsOutcome P effort change Shut = HelpsNever P change
IsOutcome P effort change Open = IsOpen P effort change
