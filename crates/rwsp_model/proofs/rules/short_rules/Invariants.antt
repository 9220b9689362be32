use Rattle.rwsp_model.proofs.ShortRules.{ListsUpTo}
use Rattle.rwsp_model.proofs.rules.short_rules.Given as goal

abbrev pub invariant-loop-place : goal.invariant-loop-place
invariant-loop-place l = ListsUpTo l.problem l.list l.place
