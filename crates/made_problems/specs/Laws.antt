-- What holds of each number's stints and problem.
use Rattle.std.specs.Prelude.{◌≡◌, ℕ, ◌*◌, ◌≤◌, List, All}
use Rattle.rwsp_terms.specs.Instance.{Instance}
use Rattle.rwsp_terms.specs.Roster.{MeetsAll}
use Rattle.made_problems.specs.Stints.{AreStints, IsUsual}
use Rattle.made_problems.specs.Blocks.{roster_of}
use Rattle.made_problems.specs.Generated.{problem_of, IsGenerated}
use Rattle.made_problems.specs.declared.stint.Stint.{Stint}

-- each stint has 4 to 7 days of work and 2 to 4 days off
abbrev pub StintsAreUsual : Type 0
StintsAreUsual = (number days : ℕ) (ts : List Stint) → 6 ≤ days → AreStints number days ts → All IsUsual ts

-- the hidden roster meets each rule of the problem that is made of it
abbrev pub HiddenRostersMeet : Type 0
HiddenRostersMeet =
    (number weeks : ℕ) (ts : List Stint) → 1 ≤ weeks → AreStints number (weeks * 7) ts
    → MeetsAll (problem_of weeks (roster_of ts)) (roster_of ts)

-- a number and a count of weeks have one problem
abbrev pub EachNumberHasOneProblem : Type 0
EachNumberHasOneProblem =
    (number weeks : ℕ) → 1 ≤ weeks
    → (P : Instance) × IsGenerated number weeks P × ((Q : Instance) → IsGenerated number weeks Q → Q ≡ P)
