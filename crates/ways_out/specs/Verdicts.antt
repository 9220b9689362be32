-- What a plan says of an instance with steps of a change.
use Rattle.std.specs.Prelude.{◌≡◌, ℕ, ◌<◌, ◌≤◌, List, length, slice_index_or, Option, Result, IfOk, IfSome}
use Rattle.std.specs.declared.alloc.AllocError.{AllocError}
use Rattle.rwsp_terms.specs.Instance.{Instance}
use Rattle.roster_planner.specs.declared.effort.Effort.{Effort}
use Rattle.ways_out.specs.declared.change.Change.{Change}
use Rattle.ways_out.specs.declared.ahead.Made.{Made}
use Rattle.ways_out.specs.declared.plans.Verdict.{Verdict}
use Rattle.ways_out.specs.declared.plans.Verdict.TheVariants.{Enough, Refuted, Open}
use Rattle.ways_out.specs.Loosened.{exact, loosened}
use Rattle.ways_out.specs.declared.numbers.Numbers.{Numbers}
use Rattle.ways_out.specs.declared.numbers.Numbers.TheVariants.{Decided, Shut}
use Rattle.ways_out.specs.Helping.{HasRoster, HasNone, IsLeftOpen, IsNextOpen, IsOutcome}

-- with these steps there is a roster, for which so many are enough, more than a number that is given; or there is none,
-- or the plan has spent its budget
abbrev pub IsVerdict : Instance → Effort → Change → (low steps : ℕ) → Verdict → Type 0
IsVerdict P effort change low steps (Enough n) = (low < n) × (n ≤ steps) × HasRoster (loosened P change n)
IsVerdict P effort change low steps Refuted = HasNone (loosened P change steps)
IsVerdict P effort change low steps Open = IsLeftOpen (loosened P change steps) effort

-- what a plan said that was made
abbrev pub IsMadeOf : Instance → Effort → Change → Made → Type 0
IsMadeOf P effort change m = IsVerdict P effort change m.low m.steps m.verdict

-- and what each of several said, where it ended
abbrev pub AreMadeOf : Instance → Effort → Change → List (Result (Option Made) AllocError) → Type 0
AreMadeOf P effort change made =
    (k : ℕ) (d : Result (Option Made) AllocError) → k < length made
    → IfOk (slice_index_or made k d) (λ one. IfSome one (IsMadeOf P effort change))

-- with these steps there is a roster; or with the demand at their last number alone there is none, or the plan of that
-- has spent its budget
abbrev pub IsNumberVerdict : Instance → Effort → Change → ℕ → Verdict → Type 0
IsNumberVerdict P effort change steps (Enough n) = (n ≡ steps) × HasRoster (loosened P change n)
IsNumberVerdict P effort change steps Refuted = HasNone (exact P change steps)
IsNumberVerdict P effort change steps Open = IsLeftOpen (exact P change steps) effort

-- the outcome of the change; or with so many steps there is no roster, and a plan of the next number has spent its own
-- effort
abbrev pub SaysOfNumbers : Instance → (effort own : Effort) → Change → Numbers → Type 0
SaysOfNumbers P effort own change (Decided outcome) = IsOutcome P effort change outcome
SaysOfNumbers P effort own change (Shut n) = IsNextOpen P own change n
