use Rattle.std.proofs.Common.{◌≡◌, ◌≤◌, ◌⊎◌}
use Rattle.std.specs.Prelude.{All}
use Rattle.made_problems.specs.Stints.{IsUsual}
use Rattle.made_problems.proofs.Following.{FollowsOn}
use Rattle.made_problems.proofs.hidden.stints_of.Given as goal

abbrev pub invariant-loop-left : goal.invariant-loop-left
invariant-loop-left l = record {
  on : FollowsOn l.number l.days l.draws l.left l.stints.items;
  usual : All IsUsual l.stints.items;
  fits : (l.left ≡ 0) ⊎ (6 ≤ l.left);
}

abbrev pub decreases-loop-left : goal.decreases-loop-left
decreases-loop-left l = l.left
