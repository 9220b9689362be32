use Rattle.std.proofs.Common.{◌+◌, ◌≤◌, ◌-◌}
use Rattle.rwsp_terms.specs.declared.limits.TheConstants.{MOST_DAYS, MOST_CELLS}
use Rattle.roster_search.proofs.need.count_column.Given as goal

abbrev pub invariant-loop-q : goal.invariant-loop-q
invariant-loop-q l = record {
  ordered : l.fixed ≤ l.possible;
  few : l.possible ≤ l.q;
  within : l.q ≤ MOST_CELLS + MOST_DAYS;
}

abbrev pub decreases-loop-q : goal.decreases-loop-q
decreases-loop-q l = MOST_CELLS + MOST_DAYS - l.q
