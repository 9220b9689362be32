use Rattle.std.proofs.Common.{◌≤◌, length, drop}
use Rattle.clean_words.specs.Tables.{IsReader}
use Rattle.clean_words.proofs.rule_table.rule_table.Given as goal

abbrev pub invariant-loop-left : goal.invariant-loop-left
invariant-loop-left l = record {
  few : l.left ≤ length l.list;
  table : IsReader l.problem (drop l.left l.list) l.table;
}

abbrev pub decreases-loop-left : goal.decreases-loop-left
decreases-loop-left l = l.left
