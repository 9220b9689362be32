-- What `trial` answers, for the problem of its number and weeks.
use Rattle.std.specs.Prelude.{◌≡◌, ℕ, List, [], ◌++◌, codes, length}
use Rattle.std.specs.List.{sum_by, range_with_len}
use Rattle.std.specs.Fmt.{decimal}
use Rattle.rwsp_terms.specs.declared.limits.TheConstants.{TRIAL_BUDGET}
use Rattle.rwsp_terms.specs.Instance.{Instance, shift_count, shift_demand}
use Rattle.rwsp_terms.specs.Roster.{MeetsAll}
use Rattle.refutation_terms.specs.Log.{IsSpent}
use Rattle.refutation_terms.specs.LogText.{log_text}
use Rattle.roster_print.specs.RosterText.{roster_text}
use Rattle.made_problems.specs.Generated.{IsGenerated}
use Rattle.refutation_log.specs.declared.found.Found.{Found}
use Rattle.refutation_log.specs.declared.found.Found.TheVariants.{Roster, NoRoster, Undecided}
use Rattle.refutation_log.specs.Planned.{IsPlannedLog}
use Rattle.commands.specs.Lines.{line}
use Rattle.commands.specs.declared.trial.Answer.{Answer}

-- a roster that meets every rule, or a sharp log that has spent the budget. There is no refutation, since a roster
-- exists
abbrev pub IsTried : Instance → Found → Type 0
IsTried P (Roster s) = (s.days ≡ P.days) × MeetsAll P s.cells
IsTried P (Undecided g) = IsSpent P g TRIAL_BUDGET × IsPlannedLog P g
IsTried P (NoRoster g) = ⊥

-- what was found for the problem of the number and the weeks
abbrev pub IsTrial : ℕ → ℕ → Answer → Type 0
IsTrial number weeks trial =
    (trial.number ≡ number) × (trial.weeks ≡ weeks)
    × ((P : Instance) × IsGenerated number weeks P × IsTried P trial.found)

-- what is demanded of the shifts on a day, and on all days
abbrev pub demand_on : Instance → ℕ → ℕ
demand_on P j = sum_by (λ x. (shift_demand P x j).least) (range_with_len 1 (shift_count P))

abbrev pub whole_demand : Instance → ℕ
whole_demand P = sum_by (demand_on P) (range_with_len 1 P.days)

-- the numbers of a trial's problem
abbrev pub trial_line : Instance → Answer → List ℕ
trial_line P trial =
    codes "number " ++ decimal trial.number
    ++ codes " weeks " ++ decimal trial.weeks
    ++ codes " days " ++ decimal P.days
    ++ codes " shifts " ++ decimal (shift_count P)
    ++ codes " demand " ++ decimal (whole_demand P)

-- what was found, and how long its text is; a trial finds no refutation
abbrev pub found_line : Instance → Found → List ℕ
found_line P (Roster s) = codes "answer roster bytes " ++ decimal (length (roster_text P s.cells))
found_line P (Undecided g) = codes "answer undecided bytes " ++ decimal (length (log_text P g))
found_line P (NoRoster g) = []

abbrev pub trial_text : Instance → Answer → List ℕ
trial_text P trial = line (trial_line P trial) ++ line (found_line P trial.found)

-- the text of the trial, for the problem of its number and weeks
abbrev pub IsTrialText : Answer → List ℕ → Type 0
IsTrialText trial text = (P : Instance) × IsGenerated trial.number trial.weeks P × (text ≡ trial_text P trial)
