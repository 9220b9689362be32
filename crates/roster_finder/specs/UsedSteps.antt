-- The steps that a fractional roster takes.
use Rattle.std.specs.Prelude.{◌<◌, length}
use Rattle.roster_finder.specs.declared.used.Used.{Used}
use Rattle.roster_finder.specs.declared.setting.Setting.{Setting}

-- it is a step of the setting on one of its weekdays
abbrev pub IsUsedOf : Setting → Used → Type 0
IsUsedOf setting used = (used.weekday < setting.demand.now.days) × (used.number < length setting.layer.now.steps.items)
