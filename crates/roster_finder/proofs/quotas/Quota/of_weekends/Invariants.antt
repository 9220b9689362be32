use Rattle.std.proofs.Common.{All}
use Rattle.roster_finder.specs.ByStep.{IsStepOf}
use Rattle.roster_finder.proofs.quotas.Quota.of_weekends.Given as goal

abbrev pub invariant-loop-weekday : goal.invariant-loop-weekday
invariant-loop-weekday l = All (IsStepOf l.setting) l.steps.items

abbrev pub invariant-loop-number : goal.invariant-loop-number
invariant-loop-number l = All (IsStepOf l.setting) l.steps.items
