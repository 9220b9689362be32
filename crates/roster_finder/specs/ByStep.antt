-- Numbers by weekday and step.
use Rattle.std.specs.Prelude.{◌≡◌, ℕ, ℤ, ◌<◌, length}
use Rattle.roster_finder.specs.declared.setting.Setting.{Setting}
use Rattle.roster_finder.specs.declared.table.Table.{Table}

-- a number for each weekday of the setting and each step of its layer
pub record IsByStep (setting : Setting) (table : Table ℤ) : Type 0 where
  pub weekdays : table.rows ≡ setting.demand.now.days
  pub steps : table.columns ≡ length setting.layer.now.steps.items

-- a row and a column of a table of so many
abbrev pub IsPlaceWithin : ℕ → ℕ → ℕ × ℕ → Type 0
IsPlaceWithin rows columns place = (place.0 < rows) × (place.1 < columns)

-- a weekday and a step of the setting
abbrev pub IsStepOf : Setting → ℕ × ℕ → Type 0
IsStepOf setting = IsPlaceWithin setting.demand.now.days (length setting.layer.now.steps.items)
