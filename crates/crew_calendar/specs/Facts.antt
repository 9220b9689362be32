-- What a planner may rely on: the demand is met each day, nobody's days break a rule, and all go round the whole cycle.
use Rattle.std.specs.Prelude.{◌≡◌, ℕ, ◌+◌, ◌-◌, ◌*◌, ◌%◌, ◌<◌, ◌≤◌, List, pos, ◌≤ℤ◌, ◌==◌, count_by, map}
use Rattle.std.specs.List.{range_with_len}
use Rattle.rwsp_terms.specs.Instance.{Instance, cells, shift_count, least, greatest}
use Rattle.rwsp_terms.specs.Window.{Bad, window}
use Rattle.rwsp_terms.specs.Roster.{IsRoster, IsRule, MeetsAll}
use Rattle.rwsp_terms.specs.declared.data.Symbol.{Symbol}
use Rattle.rwsp_terms.specs.declared.data.Rule.{Rule}
use Rattle.crew_calendar.specs.Crew.{employees, position_on, symbol_on}

-- how many employees have a symbol on a day
abbrev pub crew_with : Instance → List Symbol → ℕ → ℕ → ℕ
crew_with P s t x = count_by (λ e. (symbol_on P s e t).number == x) (employees P)

-- the day of the week, from 1 on
abbrev pub weekday : Instance → ℕ → ℕ
weekday P t = t % P.days + 1

-- on each day each symbol, the day off too, has at least as many employees as the least demand and at most as many as
-- the greatest
abbrev pub MeetsDemandDaily : Instance → List Symbol → Type 0
MeetsDemandDaily P s =
    (t x : ℕ) → x ≤ shift_count P
    → (least P x (weekday P t) ≤ℤ pos (crew_with P s t x)) × (pos (crew_with P s t x) ≤ℤ greatest P x (weekday P t))

-- the symbols of an employee on n days in a row, from day t on
abbrev pub stretch : Instance → List Symbol → ℕ → ℕ → ℕ → List Symbol
stretch P s e t days = map (symbol_on P s e) (range_with_len t days)

-- an employee's days are the cycle, from the week of his number on
abbrev pub FollowsCycle : Instance → List Symbol → Type 0
FollowsCycle P s = (e t days : ℕ) → stretch P s e t days ≡ window s ((e - 1) * P.days + t) days

-- no days in a row of an employee are bad for a rule
abbrev pub IsClean : Instance → List Symbol → Type 0
IsClean P s = (e t days : ℕ) (r : Rule) → IsRule P r → Bad P r t (stretch P s e t days) → ⊥

-- the employee is at the position on this one of the days of a round that begins on day t, and on no other
pub record StandsOnce (P : Instance) (e t p day : ℕ) : Type 0 where
  pub within : day < cells P
  pub here : position_on P e (t + day) ≡ p
  pub only : (other : ℕ) → other < cells P → position_on P e (t + other) ≡ p → other ≡ day

-- in as many days as the cycle has, an employee is once at each position
abbrev pub GoesRound : Instance → Type 0
GoesRound P = (e t p : ℕ) → p < cells P → (day : ℕ) × StandsOnce P e t p day

-- the same for every instance that has a day
abbrev pub DemandIsMetDaily : Type 0
DemandIsMetDaily = (P : Instance) (s : List Symbol) → 0 < cells P → MeetsAll P s → MeetsDemandDaily P s

abbrev pub EmployeesFollowTheCycle : Type 0
EmployeesFollowTheCycle = (P : Instance) (s : List Symbol) → IsRoster P s → FollowsCycle P s

abbrev pub EmployeesKeepTheRules : Type 0
EmployeesKeepTheRules = (P : Instance) (s : List Symbol) → 0 < cells P → MeetsAll P s → IsClean P s

abbrev pub EmployeesGoRound : Type 0
EmployeesGoRound = (P : Instance) → 0 < cells P → GoesRound P
