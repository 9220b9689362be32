use Rattle.std.proofs.Common.{◌≡◌, ◌*◌, ◌≤◌}
use Rattle.std.specs.List.{range_with_len, sum_by}
use Rattle.rwsp_terms.specs.declared.limits.TheConstants.{MOST_WEEKS, MOST_SHIFTS}
use Rattle.commands.specs.Trial.{demand_on}
use Rattle.commands.proofs.trial.texts.whole_demand.Given as goal

abbrev pub invariant-loop-day : goal.invariant-loop-day
invariant-loop-day l = record {
  sum : l.demand ≡ sum_by (demand_on l.problem) (range_with_len 1 l.day);
  few : l.demand ≤ MOST_WEEKS * MOST_SHIFTS * l.day;
}
