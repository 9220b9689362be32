-- The steps of quotas have places in tables by step.
use Rattle.std.proofs.Common.{ℕ, ℤ, All, sym, subst}
use Rattle.roster_finder.specs.declared.quotas.Quota.{Quota}
use Rattle.roster_finder.specs.declared.setting.Setting.{Setting}
use Rattle.roster_finder.specs.declared.table.Table.{Table}
use Rattle.roster_finder.specs.ByStep.{IsByStep, IsPlaceWithin}
use Rattle.roster_finder.specs.Quotas.{IsQuotaOf}

pub steps_fit : (setting : Setting) (table : Table ℤ) (quota : Quota) → IsByStep setting table → IsQuotaOf setting quota → All (IsPlaceWithin table.rows table.columns) quota.steps.items
steps_fit setting table quota fits is =
    subst (λ (rows : ℕ). All (IsPlaceWithin rows table.columns) quota.steps.items) (sym fits.weekdays)
    (subst (λ (columns : ℕ). All (IsPlaceWithin setting.demand.now.days columns) quota.steps.items) (sym fits.steps) is)
