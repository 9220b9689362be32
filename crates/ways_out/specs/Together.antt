-- Changes that are planned together.
use Rattle.ways_out.specs.declared.change.Change.{Change}
use Rattle.ways_out.specs.declared.change.Change.TheVariants.{LowerDemand, HigherDemand}

-- the change is one of a demand
abbrev pub IsOfDemand : Change → Type 0
IsOfDemand (LowerDemand j x) = Unit {0}
IsOfDemand (HigherDemand j x) = Unit {0}
IsOfDemand change = ⊥
