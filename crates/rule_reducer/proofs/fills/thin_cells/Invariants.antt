use Rattle.std.proofs.Common.{◌≤◌}
use Rattle.rwsp_terms.specs.declared.limits.TheConstants.{MOST_CELLS}
use Rattle.refutation_terms.specs.Log.{Passes}
use Rattle.rule_reducer.specs.Kept.{LosesCellsAndRules}
use Rattle.rule_reducer.proofs.fills.thin_cells.Given as goal

abbrev pub invariant-loop-size : goal.invariant-loop-size
invariant-loop-size l = record {
  few : l.size ≤ MOST_CELLS;
  passes : Passes l.problem l.left;
  kept : LosesCellsAndRules l.fn.log l.left;
}

abbrev pub decreases-loop-size : goal.decreases-loop-size
decreases-loop-size l = l.size
