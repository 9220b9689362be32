-- What `roster` answers to what the other commands print with a roster.
use Rattle.std.specs.Prelude.{◌≡◌, ◌≢◌, ◌⊎◌, ℕ, List, ◌++◌, codes, Some, None}
use Rattle.rwsp_terms.specs.Instance.{Instance, symbol_of}
use Rattle.rwsp_terms.specs.Roster.{MeetsAll}
use Rattle.rwsp_terms.specs.declared.data.Symbol.{Symbol}
use Rattle.rwsp_model.specs.Validity.{KeepsLimits}
use Rattle.rwsp_model.specs.declared.roster.Roster.{Roster}
use Rattle.roster_print.specs.RosterText.{SpellsRoster, roster_text}
use Rattle.refutation_log.specs.declared.found.Found.TheVariants as Founds
use Rattle.refutation_log.specs.Bests.{IsBestFound}
use Rattle.refutation_log.specs.declared.best_found.BestFound.{BestFound}
use Rattle.crew_size.specs.Sizes.{with_weeks}
use Rattle.crew_size.specs.Runs.{IsStaffed}
use Rattle.crew_size.specs.Texts.{Staff, staff_text, sections_text, roster_line, next_size}
use Rattle.crew_size.specs.Fitting.{FitsSizes}
use Rattle.crew_size.specs.declared.run.StaffEnd.TheVariants as Ends
use Rattle.commands.specs.Plan.{plan_text}
use Rattle.commands.specs.Best.{best_text, best_roster, IsBestOf}
use Rattle.commands.specs.Roster.{SpellsNone, IsRosterAnswer}
use Rattle.commands.specs.declared.roster.Answer.{Answer}
use Rattle.commands.specs.declared.roster.Answer.TheVariants.{Shown}

-- to the bytes it answers this text and nothing else
abbrev pub GivesBack : Instance → (bytes text : List ℕ) → Type 0
GivesBack P bytes text = (answer : Answer) → IsRosterAnswer P bytes answer → answer ≡ Shown text

-- the roster of `plan` is given back
abbrev pub PlansAreGivenBack : Type 0
PlansAreGivenBack =
    (P : Instance) (s : Roster) → KeepsLimits P → MeetsAll P s.cells
    → GivesBack P (plan_text P (Founds.Roster s)) (roster_text P s.cells)

-- and that of `best`, also where the budget was spent
abbrev pub BestsAreGivenBack : Type 0
BestsAreGivenBack =
    (P : Instance) (budget : ℕ) (found : BestFound) (s : Roster) → KeepsLimits P → IsBestOf P found
    → IsBestFound P budget found → best_roster found ≡ Some s
    → GivesBack P (best_text P found) (roster_text P s.cells)

-- and that of `staff`, where its text isn't itself a roster's
abbrev pub StaffsAreGivenBack : Type 0
StaffsAreGivenBack =
    (P : Instance) (low high budget : ℕ) (run : Staff) (s : Roster) → KeepsLimits P
    → IsStaffed P low high budget run → FitsSizes P run → run.end ≡ Ends.Least s → SpellsNone P (staff_text P run)
    → GivesBack P (staff_text P run) (roster_text (with_weeks P (next_size run)) s.cells)

-- which it can be only where a week has three days, as a heading has three words, and a shift has the name `weeks`
abbrev pub StaffsSpellNoRoster : Type 0
StaffsSpellNoRoster =
    (P : Instance) (run : Staff) (s : Roster) → KeepsLimits P → FitsSizes P run → run.end ≡ Ends.Least s
    → (P.days ≢ 3) ⊎ (symbol_of P (codes "weeks") ≡ None) → SpellsNone P (staff_text P run)

-- the roster is that of an answer of `best` that fits, and the bytes are its text
abbrev pub IsOfBest : Instance → List ℕ → List Symbol → Type 0
IsOfBest P bytes s =
    (found : BestFound) × (r : Roster) × IsBestOf P found × (best_roster found ≡ Some r) × (r.cells ≡ s)
    × (bytes ≡ best_text P found)

-- it is that of a run of `staff` that fits and ends with m weeks, and the bytes are its text, up to how the roster at
-- its end is spelled
pub record IsOfStaff (P : Instance) (bytes : List ℕ) (m : ℕ) (s : List Symbol) : Type 0 where
  pub run : Staff
  pub roster : Roster
  pub fits : FitsSizes P run
  pub least : run.end ≡ Ends.Least roster
  pub cells : roster.cells ≡ s
  pub size : next_size run ≡ m
  pub part : List ℕ
  pub spelled : SpellsRoster (with_weeks P m) part s
  pub whole : bytes ≡ sections_text P run.low run.logs ++ (roster_line m ++ part)

-- the bytes as a whole spell the roster, or are an answer of `best` or of `staff` that has it
abbrev pub IsOfAnswer : Instance → List ℕ → ℕ → List Symbol → Type 0
IsOfAnswer P bytes m s = ((m ≡ P.weeks) × SpellsRoster P bytes s) ⊎ (IsOfBest P bytes s ⊎ IsOfStaff P bytes m s)

-- no other roster is shown
abbrev pub ShownRostersStand : Type 0
ShownRostersStand =
    (P : Instance) (bytes text : List ℕ) → IsRosterAnswer P bytes (Shown text)
    → (m : ℕ) × (s : List Symbol) × IsOfAnswer P bytes m s × (text ≡ roster_text (with_weeks P m) s)
