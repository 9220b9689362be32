-- Quotas of steps.
use Rattle.std.specs.Prelude.{◌≡◌, ℤ, ◌+◌, ◌*◌, List, length, All}
use Rattle.roster_finder.specs.declared.quotas.Quota.{Quota}
use Rattle.roster_finder.specs.declared.setting.Setting.{Setting}
use Rattle.roster_finder.specs.ByStep.{IsStepOf}

-- the steps are those of the setting, on its weekdays
abbrev pub IsQuotaOf : Setting → Quota → Type 0
IsQuotaOf setting quota = All (IsStepOf setting) quota.steps.items

-- a price for each symbol on each weekday, and then for each quota
abbrev pub ArePricesOf : Setting → List Quota → List ℤ → Type 0
ArePricesOf setting quotas prices =
    length prices ≡ setting.demand.now.days * setting.demand.now.symbols + length quotas
