-- What holds of all tables, duties and words.
use Rattle.std.specs.Prelude.{◌≡◌, ℕ, List}
use Rattle.rwsp_terms.specs.Instance.{Instance}
use Rattle.rwsp_terms.specs.declared.data.Symbol.{Symbol}
use Rattle.rwsp_model.specs.Validity.{KeepsLimits}
use Rattle.crew_calendar.specs.Calendar.{Date, IsDateWord}
use Rattle.crew_calendar.specs.Texts.{IsTable, AreDuties}
use Rattle.crew_calendar.specs.Events.{AreEvents}

-- a table has one text
abbrev pub TablesAreOne : Type 0
TablesAreOne =
    (P : Instance) (s : List Symbol) (date : Date) (days : ℕ) (text other : List ℕ)
    → IsTable P s date days text → IsTable P s date days other → text ≡ other

-- and so have the duties of an employee, where starts and lengths keep their limits
abbrev pub DutiesAreOne : Type 0
DutiesAreOne =
    (P : Instance) (s : List Symbol) (date : Date) (days employee : ℕ) (text other : List ℕ)
    → KeepsLimits P → AreDuties P s date days employee text → AreDuties P s date days employee other → text ≡ other

-- a word names one date at most
abbrev pub WordsNameOneDate : Type 0
WordsNameOneDate = (word : List ℕ) (date other : Date) → IsDateWord word date → IsDateWord word other → date ≡ other

-- and so have the events of an employee's duties
abbrev pub EventsAreOne : Type 0
EventsAreOne =
    (P : Instance) (s : List Symbol) (date : Date) (days employee : ℕ) (text other : List ℕ)
    → KeepsLimits P → AreEvents P s date days employee text → AreEvents P s date days employee other → text ≡ other
