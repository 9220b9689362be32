use Rattle.roster_finder.specs.Mixtures.{IsMixtureOf}
use Rattle.roster_finder.proofs.mixture.Mixture.approach.Given as goal

abbrev pub invariant-loop : goal.invariant-loop
invariant-loop l = IsMixtureOf l.setting l.self
