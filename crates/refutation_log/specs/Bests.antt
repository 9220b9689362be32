-- What a search for the most free weekends gives.
use Rattle.std.specs.Prelude.{◌≡◌, ℕ, ◌+◌, ◌≤◌, Bool, Option, Some, None}
use Rattle.std.specs.Option.{IfSome}
use Rattle.rwsp_terms.specs.Instance.{Instance}
use Rattle.rwsp_terms.specs.Roster.{MeetsAll}
use Rattle.rwsp_model.specs.Schedule.{Schedule}
use Rattle.refutation_terms.specs.FreeWeekends.{free_weekends}
use Rattle.refutation_terms.specs.Log.{Log, Passes, IsSpent, size}
use Rattle.refutation_log.specs.declared.found.Found.{Found}
use Rattle.refutation_log.specs.declared.found.Found.TheVariants.{Roster, NoRoster as NoRosterFound, Undecided as UndecidedFound}
use Rattle.refutation_log.specs.FreeSharp.{IsFreeSharp}
use Rattle.refutation_log.specs.Planned.{IsCountedLog}
use Rattle.refutation_log.specs.declared.best_found.BestFound.{BestFound}
use Rattle.refutation_log.specs.declared.best_found.BestFound.TheVariants.{Best, NoRoster, Undecided}

-- a roster of the problem's days that meets every rule
abbrev pub IsMeeting : Instance → Schedule → Type 0
IsMeeting P s = (s.days ≡ P.days) × MeetsAll P s.cells

-- one above the free weekends of the best roster so far, 0 where there is none
abbrev pub goal_above : Option Schedule → ℕ
goal_above None = 0
goal_above (Some s) = free_weekends s.cells + 1

-- the same of what a search for the most found
abbrev pub goal_of : BestFound → ℕ
goal_of (Best s g) = goal_above (Some s)
goal_of (NoRoster g) = 0
goal_of (Undecided s g) = goal_above s

-- the next goal behind what was found with one: one above the free weekends of the roster, where there is one
abbrev pub goal_behind : ℕ → Found → ℕ
goal_behind goal (Roster s) = free_weekends s.cells + 1
goal_behind goal found = goal

-- a log that passes with this goal, within the budget, and is sharp
abbrev pub IsFreeProof : Instance → ℕ → ℕ → Log → Type 0
IsFreeProof P budget goal g = Passes P g × (g.goal ≡ Some goal) × (size g ≤ budget) × IsFreeSharp P goal g

-- a sharp log with this goal that has spent the budget
abbrev pub IsFreeSpent : Instance → ℕ → ℕ → Log → Type 0
IsFreeSpent P budget goal g = IsSpent P g budget × (g.goal ≡ Some goal) × IsFreeSharp P goal g

-- a roster with the proof that none has more free weekends; or the proof that there is no roster; or a sharp log that
-- has spent the budget, for one free weekend more than the roster that is there, or for any roster where none is
abbrev pub IsBestFound : Instance → ℕ → BestFound → Type 0
IsBestFound P budget (Best s g) = IsMeeting P s × IsFreeProof P budget (free_weekends s.cells + 1) g
IsBestFound P budget (NoRoster g) = IsFreeProof P budget 0 g
IsBestFound P budget (Undecided s g) = IfSome s (IsMeeting P) × IsFreeSpent P budget (goal_above s) g

-- what a search with one goal finds: a roster that meets every rule and has as many free weekends, or a proof that
-- there is none, or a sharp log that has spent the budget
abbrev pub IsFoundWith : Instance → ℕ → ℕ → Found → Type 0
IsFoundWith P budget goal (Roster s) = IsMeeting P s × (goal ≤ free_weekends s.cells)
IsFoundWith P budget goal (NoRosterFound g) = IsFreeProof P budget goal g
IsFoundWith P budget goal (UndecidedFound g) = IsFreeSpent P budget goal g

-- the budget was spent
abbrev pub IsUndecided : BestFound → Type 0
IsUndecided (Undecided s g) = Unit {0}
IsUndecided found = ⊥

-- its log is one of a search that counts, or that doesn't
abbrev pub IsBestCounted : Instance → Bool → BestFound → Type 0
IsBestCounted P counts (Best s g) = IsCountedLog P counts g
IsBestCounted P counts (NoRoster g) = IsCountedLog P counts g
IsBestCounted P counts (Undecided s g) = IsCountedLog P counts g
