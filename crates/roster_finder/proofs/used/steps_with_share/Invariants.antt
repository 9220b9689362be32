use Rattle.std.proofs.Common.{All}
use Rattle.roster_finder.specs.UsedSteps.{IsUsedOf}
use Rattle.roster_finder.proofs.used.steps_with_share.Given as goal

abbrev pub invariant-loop-weekday : goal.invariant-loop-weekday
invariant-loop-weekday l = All (IsUsedOf l.setting) l.used.items

abbrev pub invariant-loop-number : goal.invariant-loop-number
invariant-loop-number l = All (IsUsedOf l.setting) l.used.items
