use Rattle.roster_finder.specs.ByStep.{IsByStep}
use Rattle.roster_finder.specs.Mixtures.{IsMixtureOf}
use Rattle.roster_finder.proofs.shares.Shares.lead_over_cuts.Given as goal

abbrev pub invariant-loop : goal.invariant-loop
invariant-loop l = (IsByStep l.setting l.self.uses) × (IsMixtureOf l.setting l.mixture)
