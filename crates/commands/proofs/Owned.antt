-- What the answers of the searches name is the instance's.
use Rattle.std.proofs.Common.{◌≡◌, ℕ}
use Rattle.std.specs.Prelude.{Some, None}
use Rattle.rwsp_terms.specs.Instance.{Instance}
use Rattle.refutation_log.specs.Planned.{IsPlanned}
use Rattle.refutation_log.specs.Bests.{IsBestFound}
use Rattle.refutation_log.specs.declared.found.Found.{Found}
use Rattle.refutation_log.specs.declared.found.Found.TheVariants as Founds
use Rattle.refutation_log.specs.declared.best_found.BestFound.{BestFound}
use Rattle.refutation_log.specs.declared.best_found.BestFound.TheVariants.{Best, NoRoster, Undecided}
use Rattle.commands.specs.Plan.{IsPlanOf}
use Rattle.commands.specs.Best.{IsBestOf}

pub plan_owned : (P : Instance) (budget : ℕ) (found : Found) → IsPlanned P budget found → IsPlanOf P found
plan_owned P budget (Founds.Roster s) h = (h.0, h.1.is_roster)
plan_owned P budget (Founds.NoRoster g) h = h.0
plan_owned P budget (Founds.Undecided g) h = h.0.grounded.fits

pub best_owned : (P : Instance) (budget : ℕ) (found : BestFound) → P.days ≡ 7 → IsBestFound P budget found → IsBestOf P found
best_owned P budget (Best s g) days h = ((days, h.0.0, h.0.1.is_roster), h.1.0.grounded.fits)
best_owned P budget (NoRoster g) days h = h.0.grounded.fits
best_owned P budget (Undecided None g) days h = (tt, h.1.0.grounded.fits)
best_owned P budget (Undecided (Some s) g) days h = ((days, h.0.0, h.0.1.is_roster), h.1.0.grounded.fits)
