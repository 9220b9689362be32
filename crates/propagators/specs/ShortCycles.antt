-- Cycles of the short rules.
use Rattle.domain_store.specs.Store.{Store}
use Rattle.domain_store.specs.Cycles.{AreShortRules}
use Rattle.propagators.specs.Known.{KnownCycle, KnowsDomains}

-- a cycle of the domains, for all short rules
pub record IsShortCycle (C : KnownCycle) (S : Store) : Type 0 where
  pub short : AreShortRules C.problem C.rules
  pub stands : KnowsDomains C S
