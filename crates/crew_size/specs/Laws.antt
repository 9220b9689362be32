-- Laws of staff texts and of the runs that they are printed of.
use Rattle.std.specs.Prelude.{◌≡◌, ◌⊎◌, ℕ, ◌+◌, ◌-◌, ◌*◌, ◌^◌, ◌<◌, ◌≤◌, List, [], Option, Some, None, Result, Ok}
use Rattle.rwsp_terms.specs.declared.data.Symbol.{Symbol}
use Rattle.rwsp_terms.specs.Instance.{Instance, shift_count}
use Rattle.rwsp_terms.specs.Roster.{MeetsAll}
use Rattle.rwsp_model.specs.Validity.{KeepsLimits}
use Rattle.refutation_terms.specs.Log.{Log, Fits}
use Rattle.refutation_terms.specs.LogText.{log_text}
use Rattle.crew_size.specs.Sizes.{with_weeks, IsSize}
use Rattle.crew_size.specs.Texts.{Staff, staff_text, next_size}
use Rattle.crew_size.specs.Runs.{IsStaffed}
use Rattle.crew_size.specs.Sections.{BeginsAsHeading, AreUpToHeading}
use Rattle.crew_size.specs.Verdict.{IsStaffAccepted, IsStaffVerdict}
use Rattle.crew_size.specs.declared.run.StaffEnd.{StaffEnd}
use Rattle.crew_size.specs.declared.run.StaffEnd.TheVariants as Ends
use Rattle.crew_size.specs.declared.verdict.Staffed.{Staffed}
use Rattle.crew_size.specs.declared.verdict.Staffed.TheVariants.{Least, NoneTo}
use Rattle.crew_size.specs.declared.verdict.StaffRefusal.{StaffRefusal}

-- some roster of m weeks meets every rule
abbrev pub HasRoster : Instance → ℕ → Type 0
HasRoster P m = (s : List Symbol) × MeetsAll (with_weeks P m) s

-- none does
abbrev pub HasNoRoster : Instance → ℕ → Type 0
HasNoRoster P m = (s : List Symbol) → MeetsAll (with_weeks P m) s → ⊥

-- what the sizes say: the last one has a roster, and none from the first on that is smaller has one; or none from the
-- first to the last has one
abbrev pub AreSizesDecided : Instance → Staffed → Type 0
AreSizesDecided P (Least low m) = (low ≤ m) × HasRoster P m × ((k : ℕ) → low ≤ k → k < m → HasNoRoster P k)
AreSizesDecided P (NoneTo low last) = (low ≤ last) × ((k : ℕ) → low ≤ k → k ≤ last → HasNoRoster P k)

-- the sizes that a run decides, where its next size is m
abbrev pub decision_at : (low m : ℕ) → StaffEnd → Option Staffed
decision_at low m (Ends.Least s) = Some (Least low m)
decision_at low m Ends.NoneTo = Some (NoneTo low (m - 1))
decision_at low m (Ends.Undecided g) = None

-- the sizes that a run decides
abbrev pub decision_of : Staff → Option Staffed
decision_of run = decision_at run.low (next_size run) run.end

-- what an accepted text says is true
abbrev pub AcceptedTextsDecide : Type 0
AcceptedTextsDecide =
    (P : Instance) (text : List ℕ) (staffed : Staffed) → IsStaffAccepted P text staffed → AreSizesDecided P staffed

-- and so is what a search gives
abbrev pub SearchesDecide : Type 0
SearchesDecide =
    (P : Instance) (low high budget : ℕ) (run : Staff) (staffed : Staffed) → low ≤ high
    → IsStaffed P low high budget run → decision_of run ≡ Some staffed → AreSizesDecided P staffed

-- a text has one verdict at most
abbrev pub StaffTextsHaveOneVerdict : Type 0
StaffTextsHaveOneVerdict =
    (P : Instance) (text : List ℕ) (verdict other : Result Staffed StaffRefusal) → KeepsLimits P
    → IsStaffVerdict P text verdict → IsStaffVerdict P text other → verdict ≡ other

-- the text of what a search gives is accepted where it decides
abbrev pub PrintedRunsAreAccepted : Type 0
PrintedRunsAreAccepted =
    (P : Instance) (low high budget : ℕ) (run : Staff) (staffed : Staffed)
    → KeepsLimits P → 1 ≤ low → low ≤ high → IsSize P high
    → IsStaffed P low high budget run → decision_of run ≡ Some staffed
    → IsStaffVerdict P (staff_text P run) (Ok staffed)

-- two searches of the same sizes that decide say the same
abbrev pub SearchesAgree : Type 0
SearchesAgree =
    (P : Instance) (low high budget other_budget : ℕ) (run other : Staff) (a b : Staffed) → low ≤ high
    → IsStaffed P low high budget run → IsStaffed P low high other_budget other
    → decision_of run ≡ Some a → decision_of other ≡ Some b → a ≡ b

-- a search decides where the budget is enough for all assignments of the greatest size
abbrev pub EnoughBudgetDecides : Type 0
EnoughBudgetDecides =
    (P : Instance) (low high budget : ℕ) (run : Staff) → IsStaffed P low high budget run
    → 2 * (shift_count P + 1) ^ (high * P.days) ≤ budget + 1 → decision_of run ≡ None → ⊥

-- what follows the text of a log that fits as a heading doesn't cut it short
abbrev pub LogsAreCutWhole : Type 0
LogsAreCutWhole =
    (P : Instance) (g : Log) (rest : List ℕ) → KeepsLimits P → Fits P g → (rest ≡ []) ⊎ BeginsAsHeading rest
    → AreUpToHeading (log_text P g) rest
