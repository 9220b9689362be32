-- Which symbols each day of a roster may have.
use Rattle.std.specs.Prelude.{◌≡◌, ◌+◌, ◌*◌}
use Rattle.domain_store.specs.Store.{Store}
use Rattle.roster_finder.specs.declared.day_domains.DayDomains.{DayDomains}
use Rattle.roster_finder.specs.declared.setting.Setting.{Setting}
use Rattle.roster_finder.specs.declared.walk.Walk.{Walk}

-- the store is for rosters of the setting's days and symbols
pub record HaveDaysOf (setting : Setting) (store : Store) : Type 0 where
  pub days : store.days ≡ setting.demand.now.days
  pub weeks : store.weeks ≡ setting.demand.now.weeks
  pub symbols : store.shifts + 1 ≡ setting.demand.now.symbols

-- they are of the setting's days and symbols
pub record AreDomainsOf (setting : Setting) (domains : DayDomains) : Type 0 where
  pub days : domains.left.rows ≡ setting.demand.now.weeks * setting.demand.now.days
  pub symbols : domains.left.columns ≡ setting.demand.now.symbols

-- they are of the walk's days and symbols
pub record AreDomainsFor (walk : Walk) (domains : DayDomains) : Type 0 where
  pub days : domains.left.rows ≡ walk.cells
  pub symbols : domains.left.columns ≡ walk.symbols.below
