use Rattle.std.proofs.Common.{◌+◌, length}
use Rattle.refutation_terms.specs.Log.{Passes}
use Rattle.rule_reducer.specs.Kept.{LosesCellsAndRules}
use Rattle.rule_reducer.specs.Leaving.{cell_count}
use Rattle.rule_reducer.proofs.fills.reduce_by_rounds.Given as goal

abbrev pub invariant-loop-left : goal.invariant-loop-left
invariant-loop-left l = record {
  passes : Passes l.problem l.left;
  kept : LosesCellsAndRules l.fn.log l.left;
}

abbrev pub decreases-loop-left : goal.decreases-loop-left
decreases-loop-left l = cell_count l.left.opening + length l.left.named
