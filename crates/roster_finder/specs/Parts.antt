-- The parts that a layer's nodes are joined to.
use Rattle.std.specs.Prelude.{◌≡◌}
use Rattle.roster_finder.specs.declared.cuts.Parts.{Parts}
use Rattle.roster_finder.specs.declared.setting.Setting.{Setting}

-- they are of the setting's nodes on its weekdays
pub record ArePartsOf (setting : Setting) (parts : Parts) : Type 0 where
  pub weekdays : parts.weekdays ≡ setting.demand.now.days
  pub nodes : parts.nodes ≡ setting.layer.now.nodes
