use Rattle.roster_finder.specs.ByStep.{IsByStep}
use Rattle.roster_finder.proofs.heavy_word.uses_of.Given as goal

abbrev pub invariant-loop-week : goal.invariant-loop-week
invariant-loop-week l = IsByStep l.setting l.uses
