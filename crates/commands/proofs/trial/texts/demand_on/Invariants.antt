use Rattle.std.proofs.Common.{◌≡◌, ◌*◌, ◌≤◌}
use Rattle.std.specs.List.{range_with_len, sum_by}
use Rattle.rwsp_terms.specs.declared.limits.TheConstants.{MOST_WEEKS}
use Rattle.rwsp_terms.specs.Instance.{shift_demand}
use Rattle.commands.proofs.trial.texts.demand_on.Given as goal

abbrev pub invariant-loop-x : goal.invariant-loop-x
invariant-loop-x l = record {
  sum : l.demand ≡ sum_by (λ x. (shift_demand l.problem x l.day).least) (range_with_len 1 l.x);
  few : l.demand ≤ MOST_WEEKS * l.x;
}
