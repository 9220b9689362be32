-- What is said of the ways out of a problem.
use Rattle.std.specs.Prelude.{◌≡◌, Bool, true, false}
use Rattle.std.specs.List.{AllZip}
use Rattle.rwsp_terms.specs.Instance.{Instance}
use Rattle.rwsp_terms.specs.Roster.{MeetsAll, IsRoster}
use Rattle.refutation_terms.specs.Log.{Fits}
use Rattle.refutation_log.specs.declared.found.Found.TheVariants as Founds
use Rattle.roster_planner.specs.declared.effort.Effort.{Effort}
use Rattle.ways_out.specs.declared.change.Change.{Change}
use Rattle.ways_out.specs.declared.change.Outcome.{Outcome}
use Rattle.ways_out.specs.declared.change.Outcome.TheVariants.{Helps, Shut, Open}
use Rattle.ways_out.specs.declared.answer.WaysOut.{WaysOut}
use Rattle.ways_out.specs.declared.answer.WaysOut.TheVariants.{NoNeed, Undecided, Changes}
use Rattle.ways_out.specs.Loosened.{IsStep}
use Rattle.ways_out.specs.Changes.{changes}
use Rattle.ways_out.specs.Helping.{HasNone, IsOutcome, IsPlan}

-- a roster that meets every rule; or a log that has spent its budget; or there is no roster, and each change has its
-- outcome
abbrev pub AreWaysOut : Instance → Effort → WaysOut → Type 0
AreWaysOut P effort (NoNeed s) = (s.days ≡ P.days) × MeetsAll P s.cells
AreWaysOut P effort (Undecided g) = IsPlan P effort (Founds.Undecided g)
AreWaysOut P effort (Changes outcomes) = HasNone P × AllZip (IsOutcome P effort) (changes P) outcomes.items

-- the steps of an outcome that helps are the change's
abbrev pub HasSteps : Instance → Change → Outcome → Type 0
HasSteps P change (Helps n is_nearest) = IsStep P change n
HasSteps P change outcome = Unit {0}

-- what the answer names is the instance's
abbrev pub AreWaysOf : Instance → WaysOut → Type 0
AreWaysOf P (NoNeed s) = (s.days ≡ P.days) × IsRoster P s.cells
AreWaysOf P (Undecided g) = Fits P g
AreWaysOf P (Changes outcomes) = AllZip (HasSteps P) (changes P) outcomes.items

-- no plan of the change has spent its budget where that mattered
abbrev pub is_decided : Outcome → Bool
is_decided (Helps n is_nearest) = is_nearest
is_decided Shut = true
is_decided Open = false
