-- What a plan finds that begins with an opening.
use Rattle.std.specs.Prelude.{ℕ, ◌+◌, ◌*◌, ◌^◌, ◌<◌, ◌≤◌, None}
use Rattle.rwsp_terms.specs.Instance.{Instance, cells, shift_count}
use Rattle.refutation_terms.specs.declared.lines.Opening.{Opening}
use Rattle.refutation_terms.specs.Log.{Passes, IsSpent, size}
use Rattle.refutation_terms.specs.Sharp.{IsSharp}
use Rattle.refutation_log.specs.declared.found.Found.{Found}
use Rattle.refutation_log.specs.declared.found.Found.TheVariants.{Roster, NoRoster, Undecided}
use Rattle.roster_search.specs.Founds.{IsLogOf}
use Rattle.roster_search.specs.Guides.{IsWantedBehind}

-- a roster that meets every rule and holds the given cells; or a sharp log from this opening that passes, within the
-- budget; or one that has spent the budget, which a budget for all assignments can't be
abbrev pub IsFoundFrom : Instance → Opening → ℕ → Found → Type 0
IsFoundFrom P start budget (Roster s) = IsWantedBehind P start None s
IsFoundFrom P start budget (NoRoster g) = Passes P g × (size g ≤ budget) × IsLogOf P start None g × IsSharp P g
IsFoundFrom P start budget (Undecided g) =
    IsSpent P g budget × IsLogOf P start None g × IsSharp P g × (budget + 1 < 2 * (shift_count P + 1) ^ cells P)
